use Rattle.std.proofs.Common.{◌≡◌, length}
use Rattle.posted_users.specs.PostedState.{rules_of}
use Rattle.posted_users.proofs.users.PostedUsers.begin.Given as goal

abbrev pub invariant-loop-number : goal.invariant-loop-number
invariant-loop-number g l =
    (rules_of l.self.posted.items ≡ rules_of l.initial.self.posted.items)
    × (length l.self.posted.items ≡ length l.initial.self.posted.items)
