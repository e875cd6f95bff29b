use Rattle.std.proofs.Common.{◌<◌}
use Rattle.layer_plan.specs.Dependencies.{DependsOn}
use Rattle.layer_plan.specs.Uses.{Adds}
use Rattle.store_shares.proofs.users.users_of.Given as goal

abbrev pub invariant-loop-user : goal.invariant-loop-user
invariant-loop-user l = Adds l.initial.users.items l.users.items (λ w v. (v < l.user) × DependsOn l.named v w)
