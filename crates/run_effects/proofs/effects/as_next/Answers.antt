use Rattle.comet_meaning.proofs.GoingOn.{goes_give}
use Rattle.run_steps.specs.Operands.{next_behind}
use Rattle.run_steps.proofs.Behind.{err_passes}
use Rattle.run_effects.proofs.effects.as_next.Goals as goal

pub returns-in-Err : goal.returns-in-Err
returns-in-Err c = record { did = λ s. err_passes _ c.args.done c.in-Err.stop _ (next_behind) c.in-Err.is (λ _. goes_give) }
