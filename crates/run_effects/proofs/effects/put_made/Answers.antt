use Rattle.std.proofs.Common.{refl}
use Rattle.comet_meaning.specs.Cells.{put}
use Rattle.comet_meaning.proofs.GoingOn.{goes_put}
use Rattle.run_values.specs.Views.{value_seen}
use Rattle.run_steps.proofs.Behind.{err_passes, ok_acts}
use Rattle.run_effects.proofs.effects.put_made.Goals as goal

pub returns-in-Err : goal.returns-in-Err
returns-in-Err c = record { did = λ printed. err_passes value_seen c.args.made c.in-Err.stop _ (put c.args.slot) c.in-Err.is (λ v. goes_put _ v) }

pub returns-in-Ok : goal.returns-in-Ok
returns-in-Ok c = record { did = λ printed. ok_acts value_seen _ c.args.made c.in-Ok.made _ _ _ (put c.args.slot) c.in-Ok.is (λ v. goes_put _ v) refl (c.put.ensures.did printed) }
