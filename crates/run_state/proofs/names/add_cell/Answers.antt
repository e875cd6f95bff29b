-- The cell that is written is the next one.
use Rattle.std.proofs.Common.{sym, ◌∙◌, arith}
use Rattle.run_state.proofs.WrittenCells.{seen_next}
use Rattle.run_state.proofs.names.add_cell.Goals as goal

pub returns-clause-written : goal.returns-clause-written
returns-clause-written c =
    let cells = c.loop-cells.cells in
    rw (c.in_ok-push-2.ensures.items, c.loop-cells.invariant.same) (sym (seen_next c.args.index c.args.value cells.items (omega (arith, cells.ok.0))) ∙ c.loop-cells.invariant.written)
