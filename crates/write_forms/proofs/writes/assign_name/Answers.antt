use Rattle.std.proofs.Common.{rules, FitsSigned, w64}
use Rattle.std.proofs.lemmas.Int.{to_z-of_z}
use Rattle.comet_meaning.specs.Cells.{put}
use Rattle.comet_meaning.specs.Values.{Number}
use Rattle.comet_meaning.specs.Writes.{write}
use Rattle.run_steps.specs.OfRunState.Views.{state_seen}
use Rattle.comet_meaning.proofs.GoingOn.{goes_put}
use Rattle.run_steps.proofs.Exits.{act_does}
use Rattle.write_forms.proofs.writes.assign_name.Goals as goal

pub returns-in-Some : goal.returns-in-Some
unfolding write
returns-in-Some g c = let f : FitsSigned w64 c.in-Some.number = search rules in record { did = rw (rw c.room.ensures at (c.in-Some.ensures.given (g.W.Within.code c.args.inside.now) (g.O.Outside.told c.args.out.now))) (act_does (λ _. tt) c.put.result _ (put c.args.slot (Number c.in-Some.number) (state_seen c.args.s.now (g.O.Outside.told c.args.out.now))) (rw (to_z-of_z w64 c.in-Some.number f) at (c.put.ensures.did (g.O.Outside.told c.args.out.now))) ((goes_put c.args.slot (Number c.in-Some.number)).from (state_seen c.args.s.now (g.O.Outside.told c.args.out.now))).printed) }
