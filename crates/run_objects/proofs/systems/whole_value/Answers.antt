-- What the solvers tell is told of the state that has them.
use Rattle.std.proofs.Common.{refl}
use Rattle.run_state.specs.Views.{state_seen}
use Rattle.run_objects.proofs.systems.whole_value.Goals as goal

pub returns-clause-did : goal.returns-clause-did
returns-clause-did g c = λ s. c.whole_value.ensures.did s
