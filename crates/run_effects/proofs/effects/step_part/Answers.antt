use Rattle.comet_meaning.specs.Values.{number_of}
use Rattle.comet_meaning.specs.Writes.{stepped}
use Rattle.comet_meaning.proofs.GoingOn.{goes_then}
use Rattle.comet_meaning.proofs.GoingStatements.{goes_changed, goes_old_value}
use Rattle.run_objects.specs.OfRunState.Targets.{target_seen}
use Rattle.run_steps.specs.Operands.{stepped_target}
use Rattle.run_steps.proofs.Behind.{err_passes, ok_does}
use Rattle.run_effects.proofs.effects.step_part.Goals as goal

pub returns-in-Err : goal.returns-in-Err
returns-in-Err g c = record { did = let printed = (g.O.Outside.told c.args.out.now) in err_passes target_seen c.args.target c.in-Err.stop _ (stepped_target c.args.at c.args.step) c.in-Err.is (λ t. goes_then (goes_old_value t) (λ old. goes_changed c.args.at t (stepped c.args.step (number_of old)))) }

pub returns-in-Ok : goal.returns-in-Ok
returns-in-Ok g c = record { did = let printed = (g.O.Outside.told c.args.out.now) in ok_does target_seen _ c.args.target c.in-Ok.target _ _ _ (stepped_target c.args.at c.args.step) c.in-Ok.is (c.step_at.ensures.did) }
