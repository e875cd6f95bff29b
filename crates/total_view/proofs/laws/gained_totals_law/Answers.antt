use Rattle.total_view.proofs.GainedTotals.{gets_system, gets_objective}
use Rattle.total_view.proofs.laws.gained_totals_law.Goals as goal

pub returns-clause-system : goal.returns-clause-system
returns-clause-system c = λ M N last at a b d e f g h. gets_system M N last at a b d e f g h

pub returns-clause-objective : goal.returns-clause-objective
returns-clause-objective c = λ M N last at a b d e f g h. gets_objective M N last at a b d e f g h
