use Rattle.std.proofs.Common.{Some}
use Rattle.comet_meaning.specs.Levels.{Returned}
use Rattle.comet_meaning.specs.Outcome.{give}
use Rattle.comet_meaning.proofs.GoingOn.{goes_give}
use Rattle.run_values.specs.Views.{value_seen}
use Rattle.run_steps.proofs.Behind.{err_passes}
use Rattle.run_effects.proofs.effects.as_returned.Goals as goal

pub returns-in-Err : goal.returns-in-Err
returns-in-Err c = record { did = λ s. err_passes value_seen c.args.value c.in-Err.stop _ (λ v. give (Returned (Some v))) c.in-Err.is (λ v. goes_give) }
