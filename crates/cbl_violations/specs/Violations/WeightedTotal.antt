-- The total of a system or an objective: the sum of its members, each times its weight. Its inputs are
-- the members, and behind them as many weights in the same order. Each product must fit, and so must
-- the sum. A rule of this project.
use Rattle.std.specs.Prelude.{◌==◌, ℕ, ℤ, pos, ◌+◌, ◌*ℤ◌, List, [], ◌∷◌, ◌++◌, Result, slice_index_or}
use Rattle.cbl_base.specs.Totals.{total}
use Rattle.cbl_base.specs.NodeLaw.{Rule}
use Rattle.cbl_base.specs.NumberRule.{rule_of_numbers}
use Rattle.cbl_base.specs.declared.faults.RunFault.{RunFault}
use Rattle.cbl_violations.specs.Fitting.{where_all_fit, each_below}
use Rattle.cbl_violations.specs.Violations.AllOf.{combined_violation_at}

-- a member times its weight
abbrev pub weighted_member : ℕ → List ℤ → ℕ → ℤ
weighted_member members inputs k =
    slice_index_or inputs k (pos 0) *ℤ slice_index_or inputs (members + k) (pos 0)

unfoldable pub weighted_total_value : ℕ → List ℤ → Result ℤ RunFault
weighted_total_value members inputs =
    let products = each_below members (weighted_member members inputs) in
    where_all_fit (products ++ total products ∷ []) (total products)

abbrev pub weighted_total : ℕ → Rule
weighted_total members = rule_of_numbers (record {
  takes = λ n. n == members + members;
  value = weighted_total_value members;
  violation_at = combined_violation_at;
})
