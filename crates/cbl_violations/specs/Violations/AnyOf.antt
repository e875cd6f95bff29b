-- One of the constraints is to hold: the least of their violations, and 0 where there is none. A rule
-- of this project.
use Rattle.std.specs.Prelude.{ℤ, pos, List, [], ◌∷◌, Result, Ok, true, fold}
use Rattle.std.specs.Int.{int_min}
use Rattle.cbl_base.specs.NumberRule.{NumberRule}
use Rattle.cbl_base.specs.declared.faults.RunFault.{RunFault}
use Rattle.cbl_violations.specs.Violations.AllOf.{combined_violation_at}

-- the least of these, and 0 where there is none
abbrev pub least : List ℤ → ℤ
least [] = pos 0
least (x ∷ xs) = fold int_min x xs

unfoldable pub any_of_violations : List ℤ → Result ℤ RunFault
any_of_violations members = Ok (least members)

abbrev pub any_of : NumberRule
any_of = record {
  takes = λ _. true;
  value = any_of_violations;
  violation_at = combined_violation_at;
}
