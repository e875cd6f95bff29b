-- What the solvers tell is told of the state that has them.
use Rattle.std.proofs.Common.{refl}
use Rattle.run_state.specs.Views.{state_seen}
use Rattle.run_objects.proofs.systems.violations_of.Goals as goal

pub returns-clause-did : goal.returns-clause-did
returns-clause-did g c = λ s. c.violations_of.ensures.did s
