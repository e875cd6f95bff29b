use Rattle.std.proofs.Common.{sym, subst}
use Rattle.comet_meaning.specs.Methods.{method_form}
use Rattle.run_steps.specs.Does.{Does}
use Rattle.expression_forms.proofs.MethodLaws.{method_called}
use Rattle.expression_forms.proofs.methods.evaluate_method.Goals as goal

pub returns-in-Post : goal.returns-in-Post
unfolding method_form
returns-in-Post g c = record { did = rw c.in-Post.is c.post_constraint.ensures.did }

pub returns-in-PostPart : goal.returns-in-PostPart
unfolding method_form
returns-in-PostPart g c = record { did = rw c.in-PostPart.is c.post_part.ensures.did }

pub returns-in-Restore : goal.returns-in-Restore
unfolding method_form
returns-in-Restore g c = record { did = rw c.in-Restore.is c.restore.ensures.did }

pub returns-in_default : goal.returns-in_default
returns-in_default g c = record { did = subst (Does _ _ _) (sym (method_called _ _ _ _ _ _ c.in_default.not-Post c.in_default.not-PostPart c.in_default.not-Restore)) c.call_method.ensures.did }
