use Rattle.std.proofs.Common.{refl}
use Rattle.comet_meaning.specs.Systems.{make_system}
use Rattle.comet_meaning.specs.Values.{solver_of}
use Rattle.comet_meaning.proofs.GoingSystems.{goes_make_system}
use Rattle.run_values.specs.Views.{value_seen}
use Rattle.run_steps.proofs.Behind.{err_passes, ok_acts}
use Rattle.run_effects.proofs.effects.system_made.Goals as goal

pub returns-in-Err : goal.returns-in-Err
returns-in-Err g c = record { did = λ s. err_passes value_seen c.args.solver c.in-Err.stop _ (λ v. make_system c.args.at (solver_of v)) c.in-Err.is (λ v. goes_make_system _ _) }

pub returns-in-Ok : goal.returns-in-Ok
returns-in-Ok g c = record { did = λ s. ok_acts value_seen value_seen c.args.solver c.in-Ok.solver _ _ _ (λ v. make_system c.args.at (solver_of v)) c.in-Ok.is (λ v. goes_make_system _ _) c.make_system.ensures.printed (c.make_system.ensures.did s) }
