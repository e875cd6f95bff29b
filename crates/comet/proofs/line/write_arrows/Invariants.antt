use Rattle.std.specs.Prelude.{◌≤◌, drop, map}
use Rattle.comet.specs.Line.{arrowed, joined}
use Rattle.comet.proofs.Pieces.{SoFar}
use Rattle.comet.proofs.line.write_arrows.Given as goal

abbrev pub invariant-loop-name : goal.invariant-loop-name
invariant-loop-name g l = record {
  taken : SoFar (g.E.Sink.bytes l.fn.err) (g.E.Sink.bytes l.err) (joined (map arrowed l.names)) (joined (map arrowed (drop l.name-index l.names)));
  faults : g.E.Sink.faults l.fn.err ≤ g.E.Sink.faults l.err;
}
