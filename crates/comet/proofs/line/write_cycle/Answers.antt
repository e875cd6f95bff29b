use Rattle.std.proofs.Common.{map}
use Rattle.comet.specs.Line.{arrowed, joined, cycle_start, cycle_end}
use Rattle.comet.proofs.Faulty.{risen_before}
use Rattle.comet.proofs.Pieces.{cut_in_first, cut_in_middle, cut_in_last, all_parts, holds_on_err}
use Rattle.comet.proofs.line.write_cycle.Goals as goal

pub returns-in_err-write_cycle_start-clause-err : goal.returns-in_err-write_cycle_start-clause-err
returns-in_err-write_cycle_start-clause-err g c =
    holds_on_err _ _ (cut_in_first _ _ (cycle_start c.args.place) (joined (map arrowed c.args.names.now)) (cycle_end c.args.names.now) c.in_err-write_cycle_start.ensures.err)

pub returns-in_err-write_arrows-clause-err : goal.returns-in_err-write_arrows-clause-err
returns-in_err-write_arrows-clause-err g c =
    holds_on_err _ _ (cut_in_middle _ _ _ (cycle_start c.args.place) (joined (map arrowed c.args.names.now)) (cycle_end c.args.names.now) c.in_ok-write_cycle_start.ensures.ok c.in_err-write_arrows.ensures.err)

pub returns-in_err-write_arrows-clause-failed : goal.returns-in_err-write_arrows-clause-failed
returns-in_err-write_arrows-clause-failed g c = holds_on_err _ _ (risen_before _ _ _ c.write_cycle_start.ensures.never_falls c.in_err-write_arrows.ensures.failed)

pub returns-in_err-write_cycle_end-clause-err : goal.returns-in_err-write_cycle_end-clause-err
returns-in_err-write_cycle_end-clause-err g c =
    holds_on_err _ _ (cut_in_last _ _ _ _ (cycle_start c.args.place) (joined (map arrowed c.args.names.now)) (cycle_end c.args.names.now)
    c.in_ok-write_cycle_start.ensures.ok c.in_ok-write_arrows.ensures.ok c.in_err-write_cycle_end.ensures.err)

pub returns-in_err-write_cycle_end-clause-failed : goal.returns-in_err-write_cycle_end-clause-failed
returns-in_err-write_cycle_end-clause-failed g c =
    holds_on_err _ _ (risen_before _ _ _ c.write_cycle_start.ensures.never_falls (risen_before _ _ _ c.write_arrows.ensures.never_falls c.in_err-write_cycle_end.ensures.failed))

pub returns-clause-ok : goal.returns-clause-ok
returns-clause-ok g c =
    all_parts _ _ _ _ (cycle_start c.args.place) (joined (map arrowed c.args.names.now)) (cycle_end c.args.names.now)
    c.in_ok-write_cycle_start.ensures.ok c.in_ok-write_arrows.ensures.ok c.in_ok-write_cycle_end.ensures.ok
