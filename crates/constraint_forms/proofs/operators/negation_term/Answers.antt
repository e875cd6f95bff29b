use Rattle.comet_meaning.specs.ConstraintForms.{negation_form}
use Rattle.constraint_forms.proofs.operators.negation_term.Goals as goal

pub returns : goal.returns
unfolding negation_form
returns g c = record { did = c.negate.ensures.did _ _ c.constraint_part-operand.ensures.did }
