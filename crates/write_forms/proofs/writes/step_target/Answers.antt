use Rattle.comet_meaning.specs.Writes.{step_form}
use Rattle.write_forms.proofs.writes.step_target.Goals as goal

pub returns : goal.returns
unfolding step_form
returns g c = record { did = c.step_part.ensures.did _ c.target_of-target.ensures.did }
