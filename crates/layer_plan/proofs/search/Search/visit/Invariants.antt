use Rattle.std.proofs.Common.{◌≡◌}
use Rattle.layer_plan.specs.Search.{IsSound, KeepsTouched, work, stage_of}
use Rattle.layer_plan.specs.declared.search.Stage.TheVariants.{Untouched}
use Rattle.layer_plan.proofs.search.Search.visit.Given as goal

abbrev pub invariant-loop-item : goal.invariant-loop-item
invariant-loop-item l = IsSound l.deps l.self × KeepsTouched l.fn.self l.self × (stage_of l.self l.root ≡ Untouched → ⊥)

abbrev pub decreases-loop-item : goal.decreases-loop-item
decreases-loop-item l = work l.self
