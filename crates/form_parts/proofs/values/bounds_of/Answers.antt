use Rattle.comet_meaning.specs.Parts.{bounds}
use Rattle.form_parts.proofs.values.bounds_of.Goals as goal

pub returns : goal.returns
unfolding bounds
returns g c = record { did = c.as_bounds.ensures.did _ _ c.value_of.ensures.did }
