use Rattle.std.proofs.Common.{◌≡◌, take, map}
use Rattle.run_values.specs.Views.{cells_seen}
use Rattle.run_values.proofs.cells.copied_arrays.Given as goal

abbrev pub invariant-loop-cells : goal.invariant-loop-cells
invariant-loop-cells l = map cells_seen l.copies.items ≡ map cells_seen (take l.cells-index l.arrays)
