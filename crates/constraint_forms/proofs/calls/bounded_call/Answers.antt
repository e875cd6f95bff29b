use Rattle.std.proofs.Common.{◌∙◌, sym, subst, ap}
use Rattle.comet_meaning.specs.Outcome.{Went}
use Rattle.run_steps.specs.OfRunState.Views.{state_seen}
use Rattle.run_steps.specs.Does.{Does}
use Rattle.constraint_forms.proofs.CallLaws.{two_are, two_arent}
use Rattle.constraint_forms.proofs.calls.bounded_call.Goals as goal

pub returns-then-arguments-ne2 : goal.returns-then-arguments-ne2
returns-then-arguments-ne2 g c = record { did = two_arent _ _ _ c.if-arguments-ne2.true ∙ (ap (λ t. Went t (state_seen c.args.s.now (g.O.Outside.told c.args.out.now))) (sym c.constant.ensures)) }

pub returns : goal.returns
returns g c = record { did = subst (Does _ _ _) (sym (two_are _ _ _ _ _ c.if-arguments-ne2.false c.index-arguments-0.is c.index-arguments-1.is)) c.bounded_term.ensures.did }
