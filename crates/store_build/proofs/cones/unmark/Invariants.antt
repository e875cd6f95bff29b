use Rattle.std.proofs.Common.{◌≡◌, ◌≤◌, ◌-◌, false, length, replicate}
use Rattle.store_build.proofs.cones.unmark.Given as goal

abbrev pub invariant-loop-members : goal.invariant-loop-members
invariant-loop-members l = record {
  none : l.members.items ≡ replicate (length l.members.items) false;
  within : length l.members.items ≤ l.count;
}

abbrev pub decreases-loop-members : goal.decreases-loop-members
decreases-loop-members l = l.count - length l.members.items
