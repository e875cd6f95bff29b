use Rattle.std.proofs.Common.{◌≡◌, ◌<◌, ℕ, length}
use Rattle.layer_plan.specs.Dependencies.{DependsOn}
use Rattle.bench.proofs.planning.dependencies.Given as goal

abbrev pub invariant-loop-item : goal.invariant-loop-item
invariant-loop-item l = (length l.deps.items ≡ l.item) × ((v w : ℕ) → DependsOn l.deps.items v w → w < l.shape.items)
