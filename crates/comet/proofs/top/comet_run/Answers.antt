use Rattle.comet.proofs.Headlines.{from_job, from_refusal}
use Rattle.comet.proofs.top.comet_run.Goals as goal

pub returns-in-Ok : goal.returns-in-Ok
returns-in-Ok g c = record { headline = from_job _ _ _ _ _ _ _ _ _ _ _ _ _ _ c.in-Ok.ensures.job c.in-Ok.ensures.in_form c.run_still.ensures.headline }

pub returns-in-Err : goal.returns-in-Err
returns-in-Err g c = record { headline = from_refusal _ _ _ _ _ _ _ _ _ (rw c.refuse.ensures.cause c.in-Err.ensures.refused) c.refuse.ensures.status c.refuse.ensures.said c.refuse.ensures.said_front }
