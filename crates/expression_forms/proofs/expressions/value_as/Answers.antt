use Rattle.expression_forms.proofs.expressions.value_as.Goals as goal

pub returns : goal.returns
returns g c = record { did = c.as_held.ensures.did _ _ c.value_of.ensures.did }
