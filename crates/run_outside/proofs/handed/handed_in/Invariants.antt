use Rattle.std.proofs.Common.{◌≡◌}
use Rattle.run_outside.specs.HandedIn.{users_seen}
use Rattle.run_outside.proofs.handed.handed_in.Given as goal

-- those so far are handed in
abbrev pub invariant-loop-user : goal.invariant-loop-user
invariant-loop-user g l = l.all.items ≡ users_seen g.U.LocalConstraint.user_name g.U.LocalConstraint.user_rule l.yielded
