use Rattle.std.proofs.Common.{◌≡◌, take}
use Rattle.solver_models.specs.Moves.{after_moves}
use Rattle.solver_models.proofs.moves.write_moves.Given as goal

abbrev pub invariant-loop-turn : goal.invariant-loop-turn
invariant-loop-turn l = l.assignment.items ≡ after_moves l.initial.assignment.items (take l.turn l.moves)
