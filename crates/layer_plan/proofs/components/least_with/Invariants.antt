use Rattle.std.proofs.Common.{◌≡◌, ℕ, ◌<◌, ◌≤◌, ◌⊎◌, get_or}
use Rattle.layer_plan.proofs.components.least_with.Given as goal

abbrev pub invariant-loop-item : goal.invariant-loop-item
invariant-loop-item l = (l.result ≤ l.least) × ((k : ℕ) → k < l.item-index → l.result ≤ get_or l.items k 0) × ((l.result ≡ l.least) ⊎ ((k : ℕ) × (k < l.item-index) × (get_or l.items k 0 ≡ l.result)))
