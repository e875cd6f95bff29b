use Rattle.comet_meaning.specs.Outcome.{give}
use Rattle.comet_meaning.specs.Values.{as_kind}
use Rattle.comet_meaning.proofs.GoingOn.{goes_give}
use Rattle.run_values.specs.Views.{value_seen}
use Rattle.run_steps.proofs.Behind.{err_passes, ok_gives}
use Rattle.run_steps.proofs.operands.as_held.Goals as goal

pub returns-in-Err : goal.returns-in-Err
returns-in-Err c = record { did = λ s. err_passes value_seen c.args.value c.in-Err.stop _ (λ v. give (as_kind c.args.kind v)) c.in-Err.is (λ v. goes_give) }

pub returns-in-Ok : goal.returns-in-Ok
returns-in-Ok c = record { did = λ s. ok_gives value_seen value_seen c.args.value c.in-Ok.value c.as_kind.result _ (as_kind c.args.kind) c.in-Ok.is c.as_kind.ensures }
