use Rattle.std.proofs.Common.{ℕ, ◌<◌, ◌++◌, List, length, get_or}
use Rattle.layer_plan.specs.NamedCycle.{IsNamedCycle}
use Rattle.layer_plan.proofs.Best.{IsBest}
use Rattle.layer_plan.proofs.shortest.shortest_cycle.Given as goal

abbrev pub invariant-loop-item : goal.invariant-loop-item
invariant-loop-item l = (l.item < length l.deps) × (get_or l.near l.item 0 < length l.deps) × ((zs : List ℕ) → IsBest l.deps (λ v. get_or l.near v 0) l.root l.item zs → IsNamedCycle l.deps (l.list.items ++ zs))

abbrev pub decreases-loop-item : goal.decreases-loop-item
decreases-loop-item l = get_or l.near l.item 0
