use Rattle.std.proofs.Common.{◌≡◌, ℕ, ◌<◌, []}
use Rattle.layer_plan.specs.Search.{IsSound, stage_of}
use Rattle.layer_plan.specs.declared.search.Stage.TheVariants.{Untouched}
use Rattle.layer_plan.proofs.search.layers_of.Given as goal

abbrev pub invariant-loop-root : goal.invariant-loop-root
invariant-loop-root l = IsSound l.deps l.search × (l.search.stack.items ≡ []) × ((v : ℕ) → v < l.root → stage_of l.search v ≡ Untouched → ⊥)
