use Rattle.std.proofs.Common.{refl}
use Rattle.comet_meaning.specs.Writes.{swapped_at}
use Rattle.comet_meaning.proofs.GoingStatements.{goes_swapped_at}
use Rattle.run_objects.specs.OfRunState.Targets.{target_seen}
use Rattle.run_steps.proofs.Behind.{err_passes, ok_acts}
use Rattle.run_effects.proofs.effects.swap_part.Goals as goal

pub returns-in-Err : goal.returns-in-Err
returns-in-Err g c = record { did = let printed = (g.O.Outside.told c.args.out.now) in err_passes target_seen c.args.right c.in-Err.stop _ (swapped_at c.args.at (target_seen c.args.left.now)) c.in-Err.is (λ t. goes_swapped_at _ _ t) }

pub returns-in-Ok : goal.returns-in-Ok
returns-in-Ok g c = record { did = let printed = (g.O.Outside.told c.args.out.now) in ok_acts target_seen _ c.args.right c.in-Ok.right _ _ _ (swapped_at c.args.at (target_seen c.args.left.now)) c.in-Ok.is (λ t. goes_swapped_at _ _ t) c.swap_at.ensures.printed c.swap_at.ensures.did }
