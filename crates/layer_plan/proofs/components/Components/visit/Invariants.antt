use Rattle.std.proofs.Common.{◌≡◌}
use Rattle.layer_plan.specs.Components.{AreComponents, KeepsTouched, work, mark_of}
use Rattle.layer_plan.specs.declared.components.Mark.TheVariants.{Untouched}
use Rattle.layer_plan.proofs.components.Components.visit.Given as goal

abbrev pub invariant-loop-start : goal.invariant-loop-start
invariant-loop-start l = AreComponents l.deps l.self × KeepsTouched l.fn.self l.self × (mark_of l.self l.root ≡ Untouched → ⊥)

abbrev pub decreases-loop-start : goal.decreases-loop-start
decreases-loop-start l = work l.self
