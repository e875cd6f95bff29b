-- The rule over numbers of the total of some members. A rule of this project.
use Rattle.std.specs.Prelude.{◌==◌, ◌+◌, ℕ}
use Rattle.cbl_base.specs.NumberRule.{NumberRule}
use Rattle.cbl_violations.specs.Violations.AllOf.{combined_violation_at}
use Rattle.cbl_violations.specs.Violations.WeightedTotal.{weighted_total_value}

abbrev pub total_of_members : ℕ → NumberRule
total_of_members members = record {
  takes = λ n. n == members + members;
  value = weighted_total_value members;
  violation_at = combined_violation_at;
}
