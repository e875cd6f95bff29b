use Rattle.std.proofs.Common.{w64}
use Rattle.std.proofs.lemmas.Int.{to_z-of_z}
use Rattle.comet_meaning.specs.Systems.{post}
use Rattle.comet_meaning.proofs.GoingOn.{goes_charge}
use Rattle.comet_meaning.proofs.GoingSystems.{goes_post}
use Rattle.run_values.specs.Views.{value_seen}
use Rattle.run_steps.proofs.Exits.{act_does, act_exit, after}
use Rattle.run_steps.proofs.Stops.{stays}
use Rattle.run_objects.specs.OfRunState.Views.{state_seen}
use Rattle.run_steps.proofs.operands.post_behind.Goals as goal

pub returns-in_err-charge : goal.returns-in_err-charge
returns-in_err-charge g c = record { did = let printed = (g.O.Outside.told c.args.out.now) in act_exit value_seen _ _ _ (λ _. post c.args.at c.args.term c.args.weight (value_seen c.args.object.now)) _ c.from_residual.ensures.1 (c.in_err-charge.ensures.did printed) ((goes_charge 1 c.args.at).from _).printed (λ _. goes_post _ _ _ _) }

pub returns : goal.returns
returns g c = record { did = let printed = (g.O.Outside.told c.args.out.now) in after value_seen _ _ (λ _. post c.args.at c.args.term c.args.weight (value_seen c.args.object.now)) (c.in_ok-charge.ensures.did printed) (act_does value_seen _ _ _ (rw (to_z-of_z w64 c.args.weight c.ranges.weight) at (c.post.ensures.did (state_seen c.charge.new.self (g.O.Outside.told c.args.out.now)))) (stays (state_seen c.charge.new.self (g.O.Outside.told c.args.out.now)) (state_seen c.charge.new.self (g.O.Outside.told c.post.new.out)) (goes_post _ _ _ _) c.post.ensures.printed)) }
