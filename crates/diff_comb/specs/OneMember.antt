-- What is made of one member, and its rule over numbers. A rule of this project.
use Rattle.std.specs.Prelude.{◌==◌, ℤ, List, Result}
use Rattle.cbl_base.specs.NumberRule.{NumberRule}
use Rattle.cbl_base.specs.declared.faults.RunFault.{RunFault}
use Rattle.cbl_violations.specs.Violations.AllOf.{combined_violation_at}
use Rattle.cbl_violations.specs.Violations.NotHeld.{not_held_violations}
use Rattle.cbl_violations.specs.Violations.Repeat.{repeat_value}
use Rattle.diff_comb.specs.declared.of_one.Making.{Making}
use Rattle.diff_comb.specs.declared.of_one.Making.TheVariants.{NotHeld, Repeat}

abbrev pub made : Making → List ℤ → Result ℤ RunFault
made NotHeld = not_held_violations
made Repeat = repeat_value

abbrev pub one_member : Making → NumberRule
one_member making = record {
  takes = λ n. n == 1;
  value = made making;
  violation_at = combined_violation_at;
}
