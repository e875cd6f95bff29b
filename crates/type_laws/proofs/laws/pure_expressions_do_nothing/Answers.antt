use Rattle.type_laws.proofs.Trees.{expression_good}
use Rattle.type_laws.proofs.laws.pure_expressions_do_nothing.Goals as goal

pub returns : goal.returns
returns c = λ e scope s x t pure went. (expression_good e scope s x t went).pure pure
