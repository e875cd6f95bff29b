use Rattle.std.proofs.Common.{◌∙◌, sym, subst, ap}
use Rattle.comet_meaning.specs.Outcome.{Went}
use Rattle.run_steps.specs.OfRunState.Views.{state_seen}
use Rattle.run_steps.specs.Does.{Does}
use Rattle.constraint_forms.proofs.CallLaws.{three_are, three_arent}
use Rattle.constraint_forms.proofs.calls.multi_knapsack_call.Goals as goal

pub returns-then-arguments-ne3 : goal.returns-then-arguments-ne3
returns-then-arguments-ne3 g c = record { did = three_arent _ _ _ c.if-arguments-ne3.true ∙ (ap (λ t. Went t (state_seen c.args.s.now (g.O.Outside.told c.args.out.now))) (sym c.constant.ensures)) }

pub returns : goal.returns
returns g c = record { did = subst (Does _ _ _) (sym (three_are _ _ _ _ _ _ c.if-arguments-ne3.false c.index-arguments-0.is c.index-arguments-1.is c.index-arguments-2.is)) c.multi_knapsack_term.ensures.did }
