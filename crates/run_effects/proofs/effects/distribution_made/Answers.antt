use Rattle.std.proofs.Common.{ap}
use Rattle.comet_meaning.specs.Outcome.{give}
use Rattle.comet_meaning.specs.Values.{Distribution, bounds_of}
use Rattle.comet_meaning.proofs.GoingOn.{goes_give}
use Rattle.run_values.specs.Views.{value_seen}
use Rattle.run_values.specs.declared.values.Value.TheVariants as given
use Rattle.run_steps.proofs.Behind.{err_passes, ok_gives}
use Rattle.run_effects.proofs.effects.distribution_made.Goals as goal

pub returns-in-Err : goal.returns-in-Err
returns-in-Err c = record { did = λ s. err_passes value_seen c.args.range c.in-Err.stop _ (λ v. give (Distribution (bounds_of v))) c.in-Err.is (λ v. goes_give) }

pub returns-in-Ok : goal.returns-in-Ok
returns-in-Ok c = record { did = λ s. ok_gives value_seen value_seen c.args.range c.in-Ok.range (given.Distribution c.bounds.result) s (λ v. Distribution (bounds_of v)) c.in-Ok.is (ap Distribution c.bounds.ensures) }
