use Rattle.std.proofs.Common.{◌≡◌, w64, to_z, of_z, rules}
use Rattle.comet_meaning.specs.Writes.{write}
use Rattle.run_objects.proofs.writes.write.Goals as goal

pub returns-in-Element-clause-did : goal.returns-in-Element-clause-did
unfolding write
returns-in-Element-clause-did g c =
    let same : to_z w64 (of_z w64 c.number.result) ≡ c.number.result = search rules in
    let did = rw same at (c.put_number.ensures.did (g.O.Outside.told c.args.out.now)) in
    rw (c.in-Element.is, ← c.number.ensures) did

pub returns-in-Moved-clause-did : goal.returns-in-Moved-clause-did
unfolding write
returns-in-Moved-clause-did g c =
    let same : to_z w64 (of_z w64 c.number-in-Moved.result) ≡ c.number-in-Moved.result = search rules in
    let did = rw same at c.assign.ensures.did in
    rw (c.in-Moved.is, ← c.number-in-Moved.ensures) did
