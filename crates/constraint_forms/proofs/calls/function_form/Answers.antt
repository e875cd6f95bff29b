use Rattle.std.proofs.Common.{sym, subst}
use Rattle.run_steps.specs.Does.{Does}
use Rattle.constraint_forms.proofs.CallLaws.{function_of_others}
use Rattle.constraint_forms.proofs.calls.function_form.Goals as goal

pub returns-in-User : goal.returns-in-User
returns-in-User g c = record { did = rw c.in-User.is c.user_call.ensures.did }

pub returns-in_default : goal.returns-in_default
returns-in_default g c = record { did = subst (Does _ _ _) (sym (function_of_others _ _ _ _ _ c.in_default.not-User)) (c.as_in_term.ensures.did _ _ c.constraint_call.ensures.did) }
