use Rattle.std.proofs.Common.{◌∙◌, sym, subst, ap}
use Rattle.comet_meaning.specs.Outcome.{Went}
use Rattle.run_steps.specs.OfRunState.Views.{state_seen}
use Rattle.run_steps.specs.Does.{Does}
use Rattle.constraint_forms.proofs.CallLaws.{one_is, one_isnt}
use Rattle.constraint_forms.proofs.calls.all_different_call.Goals as goal

pub returns-then-arguments-ne1 : goal.returns-then-arguments-ne1
returns-then-arguments-ne1 g c = record { did = one_isnt _ _ _ c.if-arguments-ne1.true ∙ (ap (λ t. Went t (state_seen c.args.s.now (g.O.Outside.told c.args.out.now))) (sym c.constant.ensures)) }

pub returns : goal.returns
returns g c = record { did = subst (Does _ _ _) (sym (one_is _ _ _ _ c.if-arguments-ne1.false c.index-arguments-0.is)) c.all_different_term.ensures.did }
