use Rattle.std.proofs.Common.{◌≡◌, w64, to_z, of_z, rules}
use Rattle.std.specs.Prelude.{Err}
use Rattle.comet_meaning.specs.Posting.{post_taken}
use Rattle.comet_meaning.proofs.GoingExpressions.{goes_post_taken}
use Rattle.run_values.specs.Views.{value_seen}
use Rattle.run_steps.specs.OfRunState.Views.{state_seen}
use Rattle.run_steps.proofs.Exits.{act_does}
use Rattle.run_steps.proofs.Stops.{stays}
use Rattle.expression_forms.proofs.user_posting.post_taken.Goals as goal

pub returns-in-Ok : goal.returns-in-Ok
returns-in-Ok g c =
    let same : to_z w64 (of_z w64 c.args.weight) ≡ c.args.weight = search rules in
    record { did = rw same at (c.in-Ok.ensures.did (state_seen c.args.s.now (g.O.Outside.told c.args.out.now))) }

pub returns-in-Err : goal.returns-in-Err
returns-in-Err g c =
    let same : to_z w64 (of_z w64 c.args.weight) ≡ c.args.weight = search rules in
    let s = state_seen c.args.s.now (g.O.Outside.told c.args.out.now) in
    let t = state_seen c.args.s.now (g.O.Outside.told c.post_user.new.self) in
    record {
      did = act_does value_seen (Err c.in-Err.stop) t (post_taken c.args.at c.args.taken c.args.places.items c.args.weight (value_seen c.args.object.now) s)
          (rw same at (c.in-Err.ensures.did s))
          (stays s t (goes_post_taken c.args.at c.args.taken c.args.places.items c.args.weight (value_seen c.args.object.now)) c.post_user.ensures.printed);
    }
