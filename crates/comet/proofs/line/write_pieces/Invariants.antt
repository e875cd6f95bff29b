use Rattle.std.specs.Prelude.{◌≤◌, drop}
use Rattle.comet.specs.Line.{joined}
use Rattle.comet.proofs.Pieces.{SoFar, texts_of}
use Rattle.comet.proofs.line.write_pieces.Given as goal

abbrev pub invariant-loop-piece : goal.invariant-loop-piece
invariant-loop-piece g l = record {
  taken : SoFar (g.E.Sink.bytes l.fn.err) (g.E.Sink.bytes l.err) (joined (texts_of l.pieces)) (joined (texts_of (drop l.piece-index l.pieces)));
  faults : g.E.Sink.faults l.fn.err ≤ g.E.Sink.faults l.err;
}
