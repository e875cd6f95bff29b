use Rattle.comet_meaning.specs.Operators.{unary_form}
use Rattle.expression_forms.proofs.operators.evaluate_unary.Goals as goal

pub returns : goal.returns
unfolding unary_form
returns g c = record { did = c.apply_unary.ensures.did _ _ c.value_of.ensures.did }
