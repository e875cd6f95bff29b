use Rattle.term_model.proofs.CycleLaws.{acyclic_where_none, not_on_itself}
use Rattle.term_model.proofs.laws.acyclic_law.Goals as goal

pub returns-clause-ranked : goal.returns-clause-ranked
returns-clause-ranked c = λ M i acyclic back. not_on_itself M acyclic i back

pub returns-clause-none : goal.returns-clause-none
returns-clause-none c = λ M formed none. acyclic_where_none M formed none
