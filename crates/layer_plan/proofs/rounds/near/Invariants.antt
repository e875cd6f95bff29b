use Rattle.std.proofs.Common.{◌≡◌, ◌≤◌, ◌-◌, length, get_or}
use Rattle.layer_plan.specs.Rounds.{AreRounds}
use Rattle.layer_plan.proofs.rounds.near.Given as goal

abbrev pub invariant-loop-head : goal.invariant-loop-head
invariant-loop-head l = AreRounds l.uses l.rounds l.head × (get_or l.rounds.queue.items 0 0 ≡ l.root) × (l.head ≤ length l.rounds.queue.items)

abbrev pub decreases-loop-head : goal.decreases-loop-head
decreases-loop-head l = length l.uses - l.head
