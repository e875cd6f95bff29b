use Rattle.expression_forms.proofs.arrays.evaluate_plain.Goals as goal

pub returns : goal.returns
returns g c = record { did = c.call_builtin.ensures.did _ _ c.values_of-values.ensures.did }
