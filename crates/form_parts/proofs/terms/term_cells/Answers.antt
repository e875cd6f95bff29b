use Rattle.comet_meaning.specs.Parts.{terms}
use Rattle.form_parts.proofs.terms.term_cells.Goals as goal

pub returns : goal.returns
unfolding terms
returns g c = record { did = c.as_several.ensures.did _ _ c.define-term.ensures.did }
