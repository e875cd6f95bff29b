use Rattle.std.proofs.Common.{◌≡◌, ℕ, ◌<◌, length, arith}
use Rattle.layer_plan.specs.Search.{stage_of}
use Rattle.layer_plan.specs.declared.search.Stage.TheVariants.{Untouched}
use Rattle.layer_plan.proofs.Layering.{longest_all, no_cycle_all}
use Rattle.layer_plan.proofs.search.layers_of.Goals as goal

pub returns-clause-longest : goal.returns-clause-longest
returns-clause-longest c =
    let touched : (v : ℕ) → v < length c.args.deps.now → stage_of c.loop-root.search v ≡ Untouched → ⊥ = λ v h. c.loop-root.invariant.2 v (omega arith) in
    longest_all c.args.deps.now c.loop-root.search c.requires.items c.loop-root.invariant.0 c.loop-root.invariant.1 touched

pub returns-clause-none : goal.returns-clause-none
returns-clause-none c =
    let touched : (v : ℕ) → v < length c.args.deps.now → stage_of c.loop-root.search v ≡ Untouched → ⊥ = λ v h. c.loop-root.invariant.2 v (omega arith) in
    no_cycle_all c.args.deps.now c.loop-root.search c.loop-root.invariant.0 c.loop-root.invariant.1 touched
