use Rattle.comet_meaning.specs.TermForms.{list_term}
use Rattle.term_forms.proofs.arrays.list_term.Goals as goal

pub returns : goal.returns
unfolding list_term
returns g c = record { did = c.as_row.ensures.did _ _ c.terms_of.ensures.did }
