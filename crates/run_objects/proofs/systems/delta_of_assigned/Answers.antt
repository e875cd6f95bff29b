-- What the solvers tell is told of the state that has them.
use Rattle.std.proofs.Common.{◌≡◌, refl, w64, to_z, of_z, rules}
use Rattle.run_state.specs.Views.{state_seen}
use Rattle.run_objects.proofs.systems.delta_of_assigned.Goals as goal

pub returns-clause-did : goal.returns-clause-did
returns-clause-did g c = λ s.
    let same : to_z w64 (of_z w64 c.number.result) ≡ c.number.result = search rules in
    rw c.number.ensures at (rw same at (c.assign_delta.ensures.did s))
