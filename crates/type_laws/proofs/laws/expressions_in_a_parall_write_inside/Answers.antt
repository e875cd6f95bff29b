use Rattle.type_laws.proofs.Trees.{expression_good}
use Rattle.type_laws.proofs.laws.expressions_in_a_parall_write_inside.Goals as goal

pub returns : goal.returns
returns c = λ e scope s x t outer is went. (expression_good e scope s x t went).inside outer is
