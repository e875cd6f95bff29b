use Rattle.std.proofs.Common.{◌≡◌}
use Rattle.layer_plan.specs.Uses.{Adds}
use Rattle.layer_plan.proofs.UserLists.{IsAmong}
use Rattle.store_shares.proofs.users.add_users.Given as goal

abbrev pub invariant-loop-place : goal.invariant-loop-place
invariant-loop-place l = Adds l.fn.users.items l.users.items (λ w v. (v ≡ l.user) × IsAmong l.named l.user l.place w)
