use Rattle.std.proofs.Common.{◌+◌, ◌-◌, ◌*◌, length, drop}
use Rattle.inc_store.specs.Course.{InCourse}
use Rattle.inc_store.specs.Moves.{LaterThanMoves}
use Rattle.inc_store.proofs.commits.move_all.Given as goal

abbrev pub invariant-loop-var : goal.invariant-loop-var
invariant-loop-var g l = record {
  course : InCourse g.given.rules g.given.helds l.frame g.given.trace l.cells l.course (LaterThanMoves l.frame (drop l.var-index l.moves)) (l.steps + 2 * (length l.moves - l.var-index) + 1);
}
