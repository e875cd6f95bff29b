use Rattle.comet_meaning.specs.Outcome.{give}
use Rattle.comet_meaning.proofs.Endings.{went_then}
use Rattle.comet_meaning.proofs.GoingEvents.{goes_noticed}
use Rattle.comet_meaning.proofs.GoingOn.{goes_give}
use Rattle.comet_meaning.proofs.GoingVariables.{goes_commit_waiting}
use Rattle.run_steps.specs.Views.{flow_seen}
use Rattle.run_steps.proofs.Exits.{act_ends, ends_passes}
use Rattle.run_steps.proofs.Stops.{stays}
use Rattle.run_objects.specs.OfRunState.Views.{state_seen}
use Rattle.run_effects.proofs.blocks.close_block.Goals as goal

pub returns-in-Err : goal.returns-in-Err
returns-in-Err g c = record { did = let printed = (g.O.Outside.told c.args.out.now) in ends_passes c.in-Err.stop _ _ _ _ (λ _. give (flow_seen c.args.flow)) (λ _. goes_give) (act_ends _ _ _ (rw c.in-Err.is at (c.commit_waiting.ensures.did)) (stays (state_seen c.args.s.now (g.O.Outside.told c.args.out.now)) (state_seen c.commit_waiting.new.s (g.O.Outside.told c.commit_waiting.new.out)) (goes_noticed _ (goes_commit_waiting _)) c.commit_waiting.ensures.printed)) }

pub returns-in-Ok : goal.returns-in-Ok
returns-in-Ok g c = record { did = let printed = (g.O.Outside.told c.args.out.now) in went_then (λ _. give (flow_seen c.args.flow)) (rw c.in-Ok.is at (c.commit_waiting.ensures.did)) }
