use Rattle.std.proofs.Common.{◌∙◌, sym, subst}
use Rattle.run_steps.specs.Does.{Does}
use Rattle.run_steps.proofs.Forms.{argument_itself, argument_valued}
use Rattle.expression_forms.proofs.calls.argument_of.Goals as goal

pub returns-then-is_handed_itself : goal.returns-then-is_handed_itself
returns-then-is_handed_itself g c = record { did = subst (Does _ _ _) (sym (argument_itself _ _ _ _ (sym c.is_handed_itself.ensures ∙ c.if-is_handed_itself.true))) c.evaluate.ensures.did }

pub returns-else-is_handed_itself : goal.returns-else-is_handed_itself
returns-else-is_handed_itself g c = record { did = subst (Does _ _ _) (sym (argument_valued _ _ _ _ (sym c.is_handed_itself.ensures ∙ c.if-is_handed_itself.false))) c.value_as.ensures.did }
