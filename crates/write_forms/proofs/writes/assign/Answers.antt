use Rattle.checked_tree.specs.Shape.{seen}
use Rattle.comet_meaning.specs.Program.{level}
use Rattle.run_steps.specs.OfRunState.Views.{state_seen}
use Rattle.write_forms.proofs.WriteLaws.{assigned_number}
use Rattle.write_forms.proofs.writes.assign.Goals as goal

pub returns-in-Some : goal.returns-in-Some
returns-in-Some g c = let h = rw c.room.ensures at (c.in-Some.ensures.given (g.W.Within.code c.args.inside.now) (state_seen c.args.s.now (g.O.Outside.told c.args.out.now))) in record { did = rw (assigned_number (level (g.W.Within.code c.args.inside.now) (g.W.Within.depth c.args.inside.now)) c.args.at (seen c.args.target.now) (seen c.args.value.now) c.in-Some.slot (state_seen c.args.s.now (g.O.Outside.told c.args.out.now)) h.0 h.1) c.assign_name.ensures.did }
