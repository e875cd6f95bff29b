-- What the solvers tell is told of the state that has them.
use Rattle.std.proofs.Common.{refl}
use Rattle.comet_meaning.specs.Models.{domain_of}
use Rattle.run_state.specs.Views.{state_seen}
use Rattle.run_objects.proofs.variables.variable_domain.Goals as goal

pub returns-in-Ok-clause-did : goal.returns-in-Ok-clause-did
unfolding domain_of
returns-in-Ok-clause-did g c = λ s. c.in-Ok.ensures.did s

pub returns-in-Err-clause-did : goal.returns-in-Err-clause-did
unfolding domain_of
returns-in-Err-clause-did g c = λ s. c.in-Err.ensures.did s
