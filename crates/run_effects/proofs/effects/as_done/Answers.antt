use Rattle.comet_meaning.proofs.GoingOn.{goes_give}
use Rattle.run_values.specs.Views.{value_seen}
use Rattle.run_steps.specs.Operands.{nothing_behind}
use Rattle.run_steps.proofs.Behind.{err_passes}
use Rattle.run_effects.proofs.effects.as_done.Goals as goal

pub returns-in-Err : goal.returns-in-Err
returns-in-Err c = record { did = λ s. err_passes value_seen c.args.value c.in-Err.stop _ (nothing_behind) c.in-Err.is (λ v. goes_give) }
