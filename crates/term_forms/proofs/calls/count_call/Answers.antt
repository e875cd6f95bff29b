use Rattle.std.proofs.Common.{sym, subst}
use Rattle.run_steps.specs.Does.{Does}
use Rattle.term_forms.proofs.CallLaws.{count_of_two, count_of_others}
use Rattle.term_forms.proofs.calls.count_call.Goals as goal

pub returns-then-arguments-ne2 : goal.returns-then-arguments-ne2
returns-then-arguments-ne2 g c = record { did = subst (Does _ _ _) (sym (count_of_others _ _ _ _ c.if-arguments-ne2.true)) c.plain_term.ensures.did }

pub returns : goal.returns
returns g c = record { did = subst (Does _ _ _) (sym (count_of_two _ _ _ _ _ _ c.if-arguments-ne2.false c.index-arguments-0.is c.index-arguments-1.is)) c.count_term.ensures.did }
