-- All of the constraints are to hold: the sum of their violations. It says nothing of places: a
-- variable's violation is said by the members. A rule of this project.
use Rattle.std.specs.Prelude.{ℕ, ℤ, pos, List, Result, true}
use Rattle.cbl_base.specs.Arithmetic.{exact}
use Rattle.cbl_base.specs.Totals.{total}
use Rattle.cbl_base.specs.NumberRule.{NumberRule}
use Rattle.cbl_base.specs.declared.faults.RunFault.{RunFault}

unfoldable pub all_of_violations : List ℤ → Result ℤ RunFault
all_of_violations members = exact (total members)

-- what combines constraints has 0 at each place
abbrev pub combined_violation_at : List ℤ → ℕ → ℤ
combined_violation_at members place = pos 0

abbrev pub all_of : NumberRule
all_of = record {
  takes = λ _. true;
  value = all_of_violations;
  violation_at = combined_violation_at;
}
