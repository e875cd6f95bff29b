use Rattle.term_forms.proofs.calls.plain_term.Goals as goal

pub returns : goal.returns
returns g c = record { did = c.call_with.ensures.did _ _ c.terms_of-terms.ensures.did }
