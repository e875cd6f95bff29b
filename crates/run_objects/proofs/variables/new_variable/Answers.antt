-- What the solvers do is done to the state that has them.
use Rattle.std.proofs.Common.{refl}
use Rattle.run_state.specs.Views.{state_seen}
use Rattle.run_objects.proofs.variables.new_variable.Goals as goal

pub returns-clause-did : goal.returns-clause-did
returns-clause-did g c = λ s. rw c.solver.ensures at (c.add_variable.ensures.did s)
