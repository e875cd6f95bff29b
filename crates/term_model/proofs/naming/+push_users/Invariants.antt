use Rattle.std.proofs.Common.{◌≡◌, ◌++◌, map, take}
use Rattle.term_model.specs.Definitions.{joined}
use Rattle.term_model.specs.Depth.{depth_of}
use Rattle.term_model.specs.Naming.{users_of}
use Rattle.term_model.proofs.naming.+push_users.Given as goal

abbrev pub invariant-loop-arg : goal.invariant-loop-arg
invariant-loop-arg l = l.into.items ≡ l.fn.into.items ++ joined (map users_of (take l.arg-index l.arg-items))

abbrev pub decreases-push_users : goal.decreases-push_users
decreases-push_users l = depth_of l.term.now
