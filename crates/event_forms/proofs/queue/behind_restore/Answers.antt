-- What came before ended the run, or it goes on.
use Rattle.comet_meaning.proofs.GoingOn.{goes_give, goes_then}
use Rattle.comet_meaning.proofs.GoingEvents.{goes_run_queue}
use Rattle.comet_meaning.proofs.GoingStatements.{goes_level}
use Rattle.run_steps.proofs.Behind.{err_passes, ok_does}
use Rattle.event_forms.proofs.queue.behind_restore.Goals as goal

pub returns-in-Err : goal.returns-in-Err
returns-in-Err g c = record { did = λ o h. err_passes _ c.args.value c.in-Err.stop _ _ c.in-Err.is (λ _. goes_then (goes_run_queue _ (goes_level _ _) _) (λ _. goes_give)) o h }

pub returns-in-Ok : goal.returns-in-Ok
returns-in-Ok g c = record { did = ok_does _ _ c.args.value _ _ _ _ _ c.in-Ok.is c.run_before_value.ensures.did }
