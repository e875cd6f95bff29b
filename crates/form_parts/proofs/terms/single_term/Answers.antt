use Rattle.comet_meaning.specs.Parts.{term}
use Rattle.form_parts.proofs.terms.single_term.Goals as goal

pub returns : goal.returns
unfolding term
returns g c = record { did = c.as_single.ensures.did _ _ c.define.ensures.did }
