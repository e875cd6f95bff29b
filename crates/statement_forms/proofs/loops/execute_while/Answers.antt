use Rattle.comet_meaning.specs.Loops.{while_form}
use Rattle.statement_forms.proofs.loops.execute_while.Goals as goal

pub returns : goal.returns
unfolding while_form
returns g c = record { did = c.repeat.ensures.did }
