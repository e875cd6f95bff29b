use Rattle.comet_meaning.proofs.GoingSystems.{goes_take_user}
use Rattle.run_steps.specs.OfRunState.Views.{state_seen}
use Rattle.run_steps.proofs.Exits.{act_does}
use Rattle.run_steps.proofs.Stops.{stays}
use Rattle.expression_forms.proofs.user_posting.take_named.Goals as goal

pub returns : goal.returns
returns g c =
    let s = state_seen c.args.s.now (g.O.Outside.told c.args.out.now) in
    let t = state_seen c.args.s.now (g.O.Outside.told c.take_user.new.self) in
    record { did = act_does _ _ _ _ (c.take_user.ensures.did s) (stays s t (goes_take_user _ _) c.take_user.ensures.printed) }
