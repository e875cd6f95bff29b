use Rattle.comet_meaning.specs.Loops.{counter_form}
use Rattle.statement_forms.proofs.loops.start_counter.Goals as goal

pub returns-in-Some : goal.returns-in-Some
unfolding counter_form
returns-in-Some g c = record { did = rw c.in-Some.is (c.put_number.ensures.did _ _ c.number_of-number.ensures.did) }
