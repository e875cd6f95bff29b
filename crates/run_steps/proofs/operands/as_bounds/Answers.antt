use Rattle.comet_meaning.specs.Outcome.{give}
use Rattle.comet_meaning.specs.Values.{bounds_of}
use Rattle.comet_meaning.proofs.GoingOn.{goes_give}
use Rattle.run_values.specs.Views.{bounds_seen, value_seen}
use Rattle.run_steps.proofs.Behind.{err_passes, ok_gives}
use Rattle.run_steps.proofs.operands.as_bounds.Goals as goal

pub returns-in-Err : goal.returns-in-Err
returns-in-Err c = record { did = λ s. err_passes value_seen c.args.value c.in-Err.stop _ (λ v. give (bounds_of v)) c.in-Err.is (λ v. goes_give) }

pub returns-in-Ok : goal.returns-in-Ok
returns-in-Ok c = record { did = λ s. ok_gives value_seen bounds_seen c.args.value c.in-Ok.value c.bounds.result _ (bounds_of) c.in-Ok.is c.bounds.ensures }
