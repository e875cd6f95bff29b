use Rattle.std.proofs.Common.{sym, ap}
use Rattle.comet_meaning.specs.Outcome.{Went}
use Rattle.comet_meaning.specs.Variables.{beginning_form}
use Rattle.run_steps.specs.OfRunState.Views.{state_seen}
use Rattle.declaration_forms.proofs.declarations.beginning_of.Goals as goal

pub returns-in-None : goal.returns-in-None
unfolding beginning_form
returns-in-None g c = record { did = rw c.in-None.is (ap (λ b. Went b (state_seen c.args.s.now (g.O.Outside.told c.args.out.now))) (sym c.begins_with.ensures)) }

pub returns-in-Some : goal.returns-in-Some
unfolding beginning_form
returns-in-Some g c = record { did = rw c.in-Some.is c.begin.ensures.did }
