use Rattle.std.proofs.Common.{sym, subst}
use Rattle.comet_meaning.specs.Methods.{object_value}
use Rattle.run_steps.specs.Does.{Does}
use Rattle.run_steps.proofs.Forms.{object_read}
use Rattle.expression_forms.proofs.methods.object_value.Goals as goal

pub returns-in-Domain : goal.returns-in-Domain
unfolding object_value
returns-in-Domain g c = record { did = rw c.in-Domain.is c.evaluate.ensures.did }

pub returns-in_default : goal.returns-in_default
returns-in_default g c = record { did = subst (Does _ _ _) (sym (object_read _ _ _ _ c.in_default.not-Domain)) c.value_of.ensures.did }
