-- The rules of the constraints on how often values stand in a list, by what they ask. A rule of this
-- project.
use Rattle.std.specs.Prelude.{ℕ, ℤ, List, Result, true}
use Rattle.cbl_base.specs.NumberRule.{NumberRule}
use Rattle.cbl_base.specs.declared.faults.RunFault.{RunFault}
use Rattle.cbl_violations.specs.Violations.AtLeast.{at_least_violations, at_least_violation_at}
use Rattle.cbl_violations.specs.Violations.AtMost.{at_most_violations, at_most_violation_at}
use Rattle.cbl_violations.specs.Violations.Exactly.{exactly_violations, exactly_violation_at}
use Rattle.diff_global.specs.declared.cardinality.Demand.{Demand}
use Rattle.diff_global.specs.declared.cardinality.Demand.TheVariants.{AtMost, AtLeast, Exactly}

abbrev pub cardinality_violations : Demand → ℤ → List ℤ → List ℤ → Result ℤ RunFault
cardinality_violations AtMost low bounds = at_most_violations low bounds
cardinality_violations AtLeast low bounds = at_least_violations low bounds
cardinality_violations Exactly low bounds = exactly_violations low bounds

abbrev pub cardinality_violation_at : Demand → ℤ → List ℤ → List ℤ → ℕ → ℤ
cardinality_violation_at AtMost low bounds = at_most_violation_at low bounds
cardinality_violation_at AtLeast low bounds = at_least_violation_at low bounds
cardinality_violation_at Exactly low bounds = exactly_violation_at low bounds

abbrev pub cardinality_rule : Demand → ℤ → List ℤ → NumberRule
cardinality_rule demand low bounds = record {
  takes = λ _. true;
  value = cardinality_violations demand low bounds;
  violation_at = cardinality_violation_at demand low bounds;
}
