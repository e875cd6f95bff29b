use Rattle.std.proofs.Common.{sym, subst}
use Rattle.run_steps.specs.Does.{Does}
use Rattle.expression_forms.proofs.MethodLaws.{asked_read, asked_itself}
use Rattle.expression_forms.proofs.methods.asked_value.Goals as goal

pub returns-then-left-eq0 : goal.returns-then-left-eq0
returns-then-left-eq0 g c = record { did = subst (Does _ _ _) (sym (asked_read _ _ _ _ c.if-left-eq0.true)) c.value_of.ensures.did }

pub returns-else-left-eq0 : goal.returns-else-left-eq0
returns-else-left-eq0 g c = record { did = subst (Does _ _ _) (sym (asked_itself _ _ _ _ c.if-left-eq0.false)) c.evaluate.ensures.did }
