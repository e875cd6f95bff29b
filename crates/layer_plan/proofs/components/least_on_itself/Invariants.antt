use Rattle.std.proofs.Common.{ℕ, ◌<◌}
use Rattle.layer_plan.specs.Dependencies.{DependsOn}
use Rattle.layer_plan.proofs.components.least_on_itself.Given as goal

abbrev pub invariant-loop-item : goal.invariant-loop-item
invariant-loop-item l = (v : ℕ) → v < l.item-counter → DependsOn l.deps v v → ⊥
