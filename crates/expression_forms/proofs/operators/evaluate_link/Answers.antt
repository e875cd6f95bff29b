use Rattle.std.proofs.Common.{◌∙◌, sym, subst}
use Rattle.run_steps.specs.Does.{Does}
use Rattle.run_steps.proofs.Forms.{link_goes_on}
use Rattle.expression_forms.proofs.operators.evaluate_link.Goals as goal

pub returns : goal.returns
returns g c = record { did = subst (Does _ _ _) (sym (link_goes_on _ _ _ _ _ _ (sym c.decides.ensures ∙ c.if-decides.false))) (c.join_operand.ensures.did _ _ c.value_of-operand.ensures.did) }
