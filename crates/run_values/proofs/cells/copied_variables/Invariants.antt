use Rattle.std.proofs.Common.{◌≡◌, take, map}
use Rattle.run_values.specs.Views.{variable_cells_seen}
use Rattle.run_values.proofs.cells.copied_variables.Given as goal

abbrev pub invariant-loop-cells : goal.invariant-loop-cells
invariant-loop-cells l = map variable_cells_seen l.copies.items ≡ map variable_cells_seen (take l.cells-index l.arrays)
