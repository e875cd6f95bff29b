use Rattle.term_model.specs.Definitions.{IsAcyclic}
use Rattle.model_values.specs.Dependence.{IsMarkedBelow}
use Rattle.violation_shares.proofs.dependence.marks_of.Given as goal

abbrev pub invariant-loop-round : goal.invariant-loop-round
invariant-loop-round g l = (acyclic : IsAcyclic l.tables.model.now) → IsMarkedBelow l.tables.model.now acyclic.rank l.var l._round l.marks.items
