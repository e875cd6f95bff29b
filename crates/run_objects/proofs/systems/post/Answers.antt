-- What the solvers do is done to the state that has them.
use Rattle.std.proofs.Common.{◌≡◌, refl, w64, to_z, of_z, rules}
use Rattle.run_state.specs.Views.{state_seen}
use Rattle.run_objects.proofs.systems.post.Goals as goal

pub returns-in-Ok-clause-did : goal.returns-in-Ok-clause-did
returns-in-Ok-clause-did g c = λ s.
    let same : to_z w64 (of_z w64 c.args.weight) ≡ c.args.weight = search rules in
    rw same at (c.in-Ok.ensures.did s)

pub returns-in-Err-clause-did : goal.returns-in-Err-clause-did
returns-in-Err-clause-did g c = λ s.
    let same : to_z w64 (of_z w64 c.args.weight) ≡ c.args.weight = search rules in
    rw same at (c.in-Err.ensures.did s)
