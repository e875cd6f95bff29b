use Rattle.total_view.proofs.GainedTotals.{gets_constraint, gets_part}
use Rattle.total_view.proofs.laws.gained_members_law.Goals as goal

pub returns-clause-constraint : goal.returns-clause-constraint
returns-clause-constraint c = λ M N k old new x a b d e f g h i. gets_constraint M N k old new x a b d e f g h i

pub returns-clause-part : goal.returns-clause-part
returns-clause-part c = λ M N k old new x a b d e f g h i. gets_part M N k old new x a b d e f g h i
