-- What the solvers do is done to the state that has them.
use Rattle.std.proofs.Common.{refl}
use Rattle.run_state.specs.Views.{state_seen}
use Rattle.run_objects.proofs.variables.close.Goals as goal

pub returns-in-Ok-clause-did : goal.returns-in-Ok-clause-did
returns-in-Ok-clause-did g c = λ s. rw c.solver.ensures at (c.in-Ok.ensures.did s)

pub returns-in-Err-clause-did : goal.returns-in-Err-clause-did
returns-in-Err-clause-did g c = λ s. rw c.solver.ensures at (c.in-Err.ensures.did s)
