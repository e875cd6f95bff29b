use Rattle.std.proofs.Common.{◌≡◌, ℕ, ◌<◌, length, arith}
use Rattle.layer_plan.specs.Components.{mark_of}
use Rattle.layer_plan.specs.declared.components.Mark.TheVariants.{Untouched}
use Rattle.layer_plan.proofs.ComponentEnd.{least_of_all}
use Rattle.layer_plan.proofs.components.least_on_cycle.Goals as goal

pub returns : goal.returns
returns c =
    let touched : (v : ℕ) → v < length c.args.deps.now → mark_of c.loop-root.search v ≡ Untouched → ⊥ = λ v h. c.loop-root.invariant.2 v (omega arith) in
    least_of_all c.args.deps.now c.loop-root.search c.loop-root.invariant.0 c.loop-root.invariant.1 touched c.requires.cycle
