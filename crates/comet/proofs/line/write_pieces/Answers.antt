use Rattle.std.proofs.Common.{arith}
use Rattle.comet.proofs.Pieces.{piece_more, piece_cut, holds_on_err}
use Rattle.comet.proofs.line.write_pieces.Goals as goal

pub returns-in_err-write_all-clause-err : goal.returns-in_err-write_all-clause-err
returns-in_err-write_all-clause-err g c = holds_on_err _ _ (piece_cut _ _ _ c.args.pieces.now _ _ c.loop-piece-test.true c.loop-piece.invariant.taken c.in_err-write_all.ensures.err)

pub loop-piece-preserved : goal.loop-piece-preserved
loop-piece-preserved g c = record {
  taken = piece_more _ _ _ c.args.pieces.now _ _ c.loop-piece-test.true c.loop-piece.invariant.taken c.in_ok-write_all.ensures.ok;
  faults = omega (arith, c.write_all.ensures.never_falls, c.loop-piece.invariant.faults);
}
