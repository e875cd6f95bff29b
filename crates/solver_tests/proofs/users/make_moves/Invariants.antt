use Rattle.std.proofs.Common.{◌≡◌, take}
use Rattle.user_constraint.specs.Moves.{after_moves}
use Rattle.solver_tests.proofs.users.make_moves.Given as goal

abbrev pub invariant-loop-change : goal.invariant-loop-change
invariant-loop-change l = l.list.items ≡ after_moves l.fn.list.items (take l.change-index l.moves)
