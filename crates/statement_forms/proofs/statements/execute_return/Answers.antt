use Rattle.comet_meaning.specs.Statements.{return_form}
use Rattle.statement_forms.proofs.statements.execute_return.Goals as goal

pub returns-in-Some : goal.returns-in-Some
unfolding return_form
returns-in-Some g c = record { did = rw c.in-Some.is (c.as_returned.ensures.did _ _ c.value_of.ensures.did) }
