use Rattle.run_steps.specs.OfRunState.Views.{state_seen}
use Rattle.write_forms.proofs.targets.target_of.Goals as goal

pub returns-in-Some : goal.returns-in-Some
returns-in-Some g c = record { did = rw c.room.ensures at (c.in-Some.ensures.given (g.W.Within.code c.args.inside.now) (state_seen c.args.s.now (g.O.Outside.told c.args.out.now))) }
