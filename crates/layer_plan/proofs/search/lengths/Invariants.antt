use Rattle.std.proofs.Common.{◌≡◌, ℕ, ◌<◌, length, get_or}
use Rattle.layer_plan.specs.Dependencies.{list_of}
use Rattle.layer_plan.proofs.search.lengths.Given as goal

abbrev pub invariant-loop-list : goal.invariant-loop-list
invariant-loop-list l = (length l.lengths.items ≡ l.list-index) × ((item : ℕ) → item < l.list-index → get_or l.lengths.items item 0 ≡ length (list_of l.deps item))
