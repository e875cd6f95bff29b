use Rattle.std.proofs.Common.{refl}
use Rattle.comet_meaning.specs.Values.{as_kind}
use Rattle.comet_meaning.specs.Writes.{write}
use Rattle.comet_meaning.proofs.GoingStatements.{goes_write}
use Rattle.run_objects.specs.OfRunState.Targets.{target_seen}
use Rattle.run_values.specs.Views.{value_seen}
use Rattle.run_steps.proofs.Behind.{err_passes, ok_acts}
use Rattle.run_effects.proofs.effects.assign_part.Goals as goal

pub returns-in-Err : goal.returns-in-Err
returns-in-Err g c = record { did = let printed = (g.O.Outside.told c.args.out.now) in err_passes value_seen c.args.value c.in-Err.stop _ (λ v. write c.args.at (target_seen c.args.target.now) (as_kind c.args.kind v)) c.in-Err.is (λ v. goes_write _ _ _) }

pub returns-in-Ok : goal.returns-in-Ok
returns-in-Ok g c = record { did = let printed = (g.O.Outside.told c.args.out.now) in ok_acts value_seen _ c.args.value c.in-Ok.value _ _ _ (λ v. write c.args.at (target_seen c.args.target.now) (as_kind c.args.kind v)) c.in-Ok.is (λ v. goes_write _ _ _) c.write.ensures.printed (rw c.as_kind.ensures at c.write.ensures.did) }
