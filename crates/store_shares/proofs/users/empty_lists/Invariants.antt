use Rattle.std.proofs.Common.{◌≡◌, ℕ, length}
use Rattle.layer_plan.specs.Dependencies.{DependsOn}
use Rattle.store_shares.proofs.users.empty_lists.Given as goal

abbrev pub invariant-loop-item : goal.invariant-loop-item
invariant-loop-item l = (length l.lists.items ≡ l._item) × ((w v : ℕ) → DependsOn l.lists.items w v → ⊥)
