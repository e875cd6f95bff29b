use Rattle.comet_meaning.specs.Parts.{value}
use Rattle.form_parts.proofs.values.evaluated_value_of.Goals as goal

pub returns : goal.returns
unfolding value
returns g c = record { did = c.read_part.ensures.did _ c.evaluate-value.ensures.did }
