use Rattle.std.proofs.Common.{sym, subst}
use Rattle.run_steps.specs.Does.{Does}
use Rattle.constraint_forms.proofs.CallLaws.{user_as, user_of_others}
use Rattle.constraint_forms.proofs.calls.user_call.Goals as goal

pub returns-then-arguments-ne2 : goal.returns-then-arguments-ne2
returns-then-arguments-ne2 g c = record { did = subst (Does _ _ _) (sym (user_of_others _ _ _ _ c.if-arguments-ne2.true)) (c.as_in_term.ensures.did _ _ c.constraint_call.ensures.did) }

pub returns : goal.returns
returns g c = record { did = subst (Does _ _ _) (sym (user_as _ _ _ _ _ c.if-arguments-ne2.false c.index-arguments-1.is)) c.user_places.ensures.did }
