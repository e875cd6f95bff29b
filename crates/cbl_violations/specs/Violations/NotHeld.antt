-- The constraint is not to hold: 1 where it has 0 violations, and 0 else. A rule of this project.
use Rattle.std.specs.Prelude.{◌==◌, ℤ, pos, List, Result, Ok, if◌then◌else◌, slice_index_or}
use Rattle.std.specs.Ordering.{int_eq}
use Rattle.cbl_base.specs.NumberRule.{NumberRule}
use Rattle.cbl_base.specs.declared.faults.RunFault.{RunFault}
use Rattle.cbl_violations.specs.Violations.AllOf.{combined_violation_at}

abbrev pub not_held_violations : List ℤ → Result ℤ RunFault
not_held_violations members = Ok (if int_eq (slice_index_or members 0 (pos 0)) (pos 0) then pos 1 else pos 0)

abbrev pub not_held : NumberRule
not_held = record {
  takes = λ n. n == 1;
  value = not_held_violations;
  violation_at = combined_violation_at;
}
