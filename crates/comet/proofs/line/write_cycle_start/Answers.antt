use Rattle.comet.proofs.Pieces.{holds_on_err}
use Rattle.comet.proofs.line.write_cycle_start.Goals as goal

pub returns-in_err-write_pieces-clause-err : goal.returns-in_err-write_pieces-clause-err
returns-in_err-write_pieces-clause-err g c =
    holds_on_err _ _ (rw (c.as_bytes.ensures.value, c.as_bytes-2.ensures.value, c.format-line.ensures.text, c.format-col.ensures.text) at c.in_err-write_pieces.ensures.err)
