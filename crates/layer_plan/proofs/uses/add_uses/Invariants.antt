use Rattle.std.proofs.Common.{◌≡◌}
use Rattle.layer_plan.specs.Uses.{Adds}
use Rattle.layer_plan.proofs.UserLists.{IsAmong}
use Rattle.layer_plan.proofs.uses.add_uses.Given as goal

abbrev pub invariant-loop-place : goal.invariant-loop-place
invariant-loop-place l = Adds l.fn.uses.items l.uses.items (λ w v. (v ≡ l.item) × IsAmong l.deps l.item l.place w)
