use Rattle.std.proofs.Common.{◌≡◌, take}
use Rattle.user_constraint.specs.Moves.{after_moves}
use Rattle.own_constraint.proofs.rest.make_moves.Given as goal

abbrev pub invariant-loop-change : goal.invariant-loop-change
invariant-loop-change l = l.shifts.items ≡ after_moves l.fn.shifts.items (take l.change-index l.moves)
