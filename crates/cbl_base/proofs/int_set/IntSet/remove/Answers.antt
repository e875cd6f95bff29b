use Rattle.std.proofs.Common.{w64}
use Rattle.std.proofs.lemmas.Int.{to_z-of_z}
use Rattle.cbl_base.proofs.SetLemmas.{without_member-stays}
use Rattle.cbl_base.proofs.SetSearch.{rising-removed}
use Rattle.cbl_base.proofs.int_set.IntSet.remove.Goals as goal

pub invariant_of-self : goal.invariant_of-self
invariant_of-self c =
    rising-removed c.args.v c.self.inside.members.items c.deref.result.now _ c.in-Ok.index c.deref.ensures.value c.self.invariant c.remove.ensures.items (simp (to_z-of_z w64 c.args.v c.ranges.v) at c.in-Ok.ensures.at.1)

pub returns-in-Err-clause-members : goal.returns-in-Err-clause-members
returns-in-Err-clause-members c =
    without_member-stays c.args.v c.self.inside.members.items c.args.self.now c.deref.result.now c.deref.ensures.value c.self.view_is c.self.invariant (simp (to_z-of_z w64 c.args.v c.ranges.v) at c.in-Err.ensures.found)
