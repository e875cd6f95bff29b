use Rattle.std.proofs.Common.{ℕ, ◌<◌, length, get_or}
use Rattle.layer_plan.specs.Dependencies.{list_of}
use Rattle.layer_plan.specs.Rounds.{AreRounds, KeepsReached, IsReachedFrom, near_of}
use Rattle.layer_plan.proofs.rounds.Rounds.spread.Given as goal

abbrev pub invariant-loop-place : goal.invariant-loop-place
invariant-loop-place l = AreRounds l.uses l.self l.head × KeepsReached l.uses l.fn.self l.self × ((k : ℕ) → k < l.place → IsReachedFrom (near_of l.self) (length l.uses) l.item (get_or (list_of l.uses l.item) k 0))
