use Rattle.std.proofs.Common.{◌≡◌, ℕ, ◌≤◌, length, true}
use Rattle.store_turns.specs.Cones.{has}
use Rattle.store_build.proofs.cones.shorten.Given as goal

abbrev pub invariant-loop-count : goal.invariant-loop-count
invariant-loop-count l = record {
  within : l.count ≤ length l.members.items;
  past : (k : ℕ) → l.count ≤ k → has l.members.items k ≡ true;
}

abbrev pub decreases-loop-count : goal.decreases-loop-count
decreases-loop-count l = l.count
