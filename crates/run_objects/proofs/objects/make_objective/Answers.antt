-- What the solvers do is done to the state that has them.
use Rattle.std.proofs.Common.{refl}
use Rattle.run_state.specs.Views.{state_seen}
use Rattle.run_objects.proofs.objects.make_objective.Goals as goal

pub returns-clause-did : goal.returns-clause-did
returns-clause-did g c = λ s. c.new_objective.ensures.did s
