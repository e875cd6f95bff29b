use Rattle.expression_forms.proofs.constants.constant_term.Goals as goal

pub returns : goal.returns
returns g c = record { did = c.as_standing.ensures.did _ _ c.evaluate_form-value.ensures.did }
