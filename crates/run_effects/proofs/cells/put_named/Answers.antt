use Rattle.std.proofs.Common.{w64}
use Rattle.std.proofs.lemmas.Int.{to_z-of_z}
use Rattle.run_effects.proofs.cells.put_named.Goals as goal

pub returns-in-Some : goal.returns-in-Some
returns-in-Some c = λ printed. rw c.in-Some.is (simp (to_z-of_z w64 c.args.index c.ranges.index) at (c.put.ensures.did printed))
