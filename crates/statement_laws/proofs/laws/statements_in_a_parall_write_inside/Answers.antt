use Rattle.statement_laws.proofs.Trees.{statement_good}
use Rattle.statement_laws.proofs.laws.statements_in_a_parall_write_inside.Goals as goal

pub returns : goal.returns
returns c = λ st scope s w t outer is went. (statement_good st scope s w t went).inside outer is
