use Rattle.std.proofs.Common.{◌≡◌, take}
use Rattle.user_constraint.specs.Moves.{moves_of}
use Rattle.user_constraint.proofs.node.moves_of.Given as goal

abbrev pub invariant-loop-change : goal.invariant-loop-change
invariant-loop-change l = l.all.items ≡ moves_of (take l.change-index l.changes)
