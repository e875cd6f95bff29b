use Rattle.std.proofs.Common.{◌≡◌, Some, map, take}
use Rattle.model_values.specs.Outcomes.{gathered, known, listed}
use Rattle.model_values.proofs.fresh_values.values_of.Given as goal

abbrev pub invariant-loop-cell : goal.invariant-loop-cell
invariant-loop-cell l = listed l.so_far ≡ gathered (map (λ c. known (Some c)) (take l.cell-index l.cells))
