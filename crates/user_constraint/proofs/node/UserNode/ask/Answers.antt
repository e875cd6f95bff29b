use Rattle.std.proofs.Common.{◌≡◌, ◌∙◌}
use Rattle.user_constraint.specs.Moves.{moves_of}
use Rattle.user_constraint.proofs.MoveLemmas.{are_moves, one_move, two_moves}
use Rattle.user_constraint.proofs.node.UserNode.ask.Goals as goal
use Rattle.user_constraint.proofs.node.UserNode.ask.Goals.{After-as_slice, After-as_slice-in-2}

-- what is probed are the changes
only_one : (g : _) (c : After-as_slice g) → c.as_slice.result.now ≡ moves_of c.args.changes.now
only_one g c = c.as_slice.ensures ∙ one_move _ _ _ c.in-1.is c.move_of.ensures

both : (g : _) (c : After-as_slice-in-2 g) → c.as_slice-in-2.result.now ≡ moves_of c.args.changes.now
both g c = c.as_slice-in-2.ensures ∙ two_moves _ _ _ _ _ c.in-2.is c.move_of-in-2.ensures c.move_of-in-2-2.ensures

pub probe-requires-clause-moves : goal.probe-requires-clause-moves
probe-requires-clause-moves g c = rw (only_one g (goal.at.probe-requires-clause-moves g c).After-as_slice) (are_moves _ _ c.requires.changes)

pub probe-requires-in-2-clause-moves : goal.probe-requires-in-2-clause-moves
probe-requires-in-2-clause-moves g c = rw (both g (goal.at.probe-requires-in-2-clause-moves g c).After-as_slice-in-2) (are_moves _ _ c.requires.changes)

pub probe-requires-in_default-clause-moves : goal.probe-requires-in_default-clause-moves
probe-requires-in_default-clause-moves g c = rw (c.as_slice-in_default.ensures.value, c.in_ok-all-in_default.ensures) (are_moves _ _ c.requires.changes)
