use Rattle.std.proofs.Common.{w64}
use Rattle.std.proofs.lemmas.Int.{to_z-of_z}
use Rattle.cbl_base.proofs.SetLemmas.{with_member-stays}
use Rattle.cbl_base.proofs.SetSearch.{rising-inserted}
use Rattle.cbl_base.proofs.int_set.IntSet.insert.Goals as goal

pub invariant_of-self-in-Err : goal.invariant_of-self-in-Err
invariant_of-self-in-Err c =
    rising-inserted c.args.v c.self.inside.members.items c.deref.result.now _ c.in-Err.index c.deref.ensures.value c.self.invariant (simp (to_z-of_z w64 c.args.v c.ranges.v) at c.in_ok-insert-in-Err.ensures.items) (simp (to_z-of_z w64 c.args.v c.ranges.v) at c.in-Err.ensures.between.1)

pub returns-in-Ok-clause-members : goal.returns-in-Ok-clause-members
returns-in-Ok-clause-members c =
    with_member-stays c.args.v c.self.inside.members.items c.args.self.now c.deref.result.now c.deref.ensures.value c.self.view_is c.self.invariant (simp (to_z-of_z w64 c.args.v c.ranges.v) at c.in-Ok.ensures.found)
