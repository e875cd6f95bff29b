use Rattle.std.proofs.Common.{◌<◌}
use Rattle.layer_plan.specs.Dependencies.{DependsOn}
use Rattle.layer_plan.specs.Uses.{Adds}
use Rattle.layer_plan.proofs.uses.uses_of.Given as goal

abbrev pub invariant-loop-item : goal.invariant-loop-item
invariant-loop-item l = Adds l.initial.uses.items l.uses.items (λ w v. (v < l.item) × DependsOn l.deps v w)
