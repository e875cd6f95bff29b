use Rattle.std.proofs.Common.{◌+◌, ◌*◌, length, drop}
use Rattle.store_turns.specs.Cones.{has}
use Rattle.inc_store.specs.Moves.{LaterThanMoves}
use Rattle.trial.specs.Course.{InProbe}
use Rattle.trial.specs.Parts.{moves_of}
use Rattle.trial.proofs.moving.move_all.Given as goal

abbrev pub invariant-loop-var : goal.invariant-loop-var
invariant-loop-var g l = record {
  course : InProbe g.query.part.rules g.query.part.frame g.query.part.cells g.query.ask l.overlay (LaterThanMoves g.query.part.frame (moves_of (has l.members) (drop l.var-index l.moves))) (l.steps + 2 * length (moves_of (has l.members) (drop l.var-index l.moves)) + 4);
}
