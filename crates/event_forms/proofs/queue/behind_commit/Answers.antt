-- What came before ended the run, or it goes on.
use Rattle.comet_meaning.proofs.GoingEvents.{goes_behind_commit}
use Rattle.comet_meaning.proofs.GoingStatements.{goes_level}
use Rattle.run_steps.proofs.Behind.{err_passes, ok_does}
use Rattle.event_forms.proofs.queue.behind_commit.Goals as goal

pub returns-in-Err : goal.returns-in-Err
returns-in-Err g c = record { did = λ o h. err_passes _ c.args.done c.in-Err.stop _ _ c.in-Err.is (λ _. goes_behind_commit _ (goes_level _ _) _ _) o h }

pub returns-in-Ok : goal.returns-in-Ok
returns-in-Ok g c = record { did = ok_does _ _ c.args.done _ _ _ _ _ c.in-Ok.is c.run_behind.ensures.did }
