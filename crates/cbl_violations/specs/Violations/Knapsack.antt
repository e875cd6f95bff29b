-- The load, each number times its weight, is to stay within the capacity: how far it is above. At a
-- place it is its own part of the load where that is above 0, but no more than the violations. Comet's
-- `knapsack`.
use Rattle.std.specs.Prelude.{◌==◌, ℕ, ℤ, pos, ◌-ℤ◌, ◌*ℤ◌, List, [], ◌∷◌, ◌++◌, length, Result, slice_index_or}
use Rattle.std.specs.Result.{result_unwrap_or}
use Rattle.std.specs.Int.{int_min}
use Rattle.cbl_base.specs.Totals.{total}
use Rattle.cbl_base.specs.NumberRule.{NumberRule}
use Rattle.cbl_base.specs.declared.faults.RunFault.{RunFault}
use Rattle.cbl_violations.specs.Fitting.{where_all_fit, each_below, excess}

-- a place's part of the load
abbrev pub part_of_load : List ℤ → List ℤ → ℕ → ℤ
part_of_load weights xs place = slice_index_or weights place (pos 0) *ℤ slice_index_or xs place (pos 0)

unfoldable pub knapsack_violations : List ℤ → ℤ → List ℤ → Result ℤ RunFault
knapsack_violations weights capacity xs =
    let parts = each_below (length xs) (part_of_load weights xs) in
    let above = total parts -ℤ capacity in
    where_all_fit (parts ++ total parts ∷ above ∷ []) (excess above)

unfoldable pub knapsack_violation_at : List ℤ → ℤ → List ℤ → ℕ → ℤ
knapsack_violation_at weights capacity xs place =
    let violations = result_unwrap_or (knapsack_violations weights capacity xs) (pos 0) in
    excess (int_min violations (part_of_load weights xs place))

abbrev pub knapsack : List ℤ → ℤ → NumberRule
knapsack weights capacity = record {
  takes = λ n. n == length weights;
  value = knapsack_violations weights capacity;
  violation_at = knapsack_violation_at weights capacity;
}
