use Rattle.std.proofs.Common.{◌≡◌, ℕ, ◌<◌, []}
use Rattle.layer_plan.specs.Components.{AreComponents, mark_of}
use Rattle.layer_plan.specs.declared.components.Mark.TheVariants.{Untouched}
use Rattle.layer_plan.proofs.components.least_on_cycle.Given as goal

abbrev pub invariant-loop-root : goal.invariant-loop-root
invariant-loop-root l = AreComponents l.deps l.search × (l.search.starts.items ≡ []) × ((v : ℕ) → v < l.root → mark_of l.search v ≡ Untouched → ⊥)
