use Rattle.std.proofs.Common.{Bool}
use Rattle.comet_meaning.specs.Outcome.{give}
use Rattle.comet_meaning.specs.Values.{truth_of}
use Rattle.comet_meaning.proofs.GoingOn.{goes_give}
use Rattle.run_values.specs.Views.{value_seen}
use Rattle.run_steps.proofs.Behind.{err_passes, ok_gives}
use Rattle.run_steps.proofs.operands.as_truth.Goals as goal

pub returns-in-Err : goal.returns-in-Err
returns-in-Err c = record { did = λ s. err_passes value_seen c.args.value c.in-Err.stop _ (λ v. give (truth_of v)) c.in-Err.is (λ v. goes_give) }

pub returns-in-Ok : goal.returns-in-Ok
returns-in-Ok c = record { did = λ s. ok_gives value_seen (λ (b : Bool). b) c.args.value c.in-Ok.value c.truth.result _ (truth_of) c.in-Ok.is c.truth.ensures }
