use Rattle.std.proofs.Common.{◌∙◌, sym, subst, ap}
use Rattle.comet_meaning.specs.Outcome.{Went}
use Rattle.run_steps.specs.OfRunState.Views.{state_seen}
use Rattle.run_steps.specs.Does.{Does}
use Rattle.constraint_forms.proofs.CallLaws.{four_are, four_arent}
use Rattle.constraint_forms.proofs.calls.sequence_call.Goals as goal

pub returns-then-arguments-ne4 : goal.returns-then-arguments-ne4
returns-then-arguments-ne4 g c = record { did = four_arent _ _ _ c.if-arguments-ne4.true ∙ (ap (λ t. Went t (state_seen c.args.s.now (g.O.Outside.told c.args.out.now))) (sym c.constant.ensures)) }

pub returns : goal.returns
returns g c = record { did = subst (Does _ _ _) (sym (four_are _ _ _ _ _ _ _ c.if-arguments-ne4.false c.index-arguments-0.is c.index-arguments-1.is c.index-arguments-2.is c.index-arguments-3.is)) c.sequence_term.ensures.did }
