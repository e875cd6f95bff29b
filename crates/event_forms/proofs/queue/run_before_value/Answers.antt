-- The queue was run, or ended the run.
use Rattle.comet_meaning.specs.Outcome.{give}
use Rattle.comet_meaning.proofs.Endings.{went_then}
use Rattle.comet_meaning.proofs.GoingOn.{goes_give}
use Rattle.run_values.specs.Views.{value_seen}
use Rattle.run_steps.proofs.Exits.{ends_passes}
use Rattle.event_forms.proofs.queue.run_before_value.Goals as goal

pub returns-in-Err : goal.returns-in-Err
returns-in-Err g c = record { did = ends_passes c.in-Err.stop _ _ _ _ (λ _. give (value_seen c.args.value)) (λ _. goes_give) (rw c.in-Err.is at c.run_queue.ensures.did) }

pub returns-in-Ok : goal.returns-in-Ok
returns-in-Ok g c = record { did = went_then (λ _. give (value_seen c.args.value)) (rw c.in-Ok.is at c.run_queue.ensures.did) }
