use Rattle.std.proofs.Common.{refl}
use Rattle.comet_meaning.proofs.GoingDeclarations.{goes_make_solver}
use Rattle.run_steps.proofs.Stops.{does}
use Rattle.run_effects.proofs.effects.solver_made.Goals as goal

pub returns : goal.returns
returns g c = record { did = λ s. does _ _ _ _ goes_make_solver c.make_solver.ensures.printed (c.make_solver.ensures.did s) }
