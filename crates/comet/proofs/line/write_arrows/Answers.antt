use Rattle.std.proofs.Common.{arith, subst}
use Rattle.cbl_io.specs.Appended.{Appends, AppendsFront}
use Rattle.comet.specs.Line.{arrowed}
use Rattle.comet.proofs.Pieces.{each_more, each_cut, holds_on_err}
use Rattle.comet.proofs.line.write_arrows.Goals as goal

pub returns-in_err-write_arrowed-clause-err : goal.returns-in_err-write_arrowed-clause-err
returns-in_err-write_arrowed-clause-err g c =
    let cut = subst (λ name. AppendsFront (g.E.Sink.bytes c.loop-name.err) (g.E.Sink.bytes c.write_arrowed.new.err) (arrowed name)) c.name-item.is c.in_err-write_arrowed.ensures.err in
    holds_on_err _ _ (each_cut arrowed _ _ _ c.args.names.now _ _ c.loop-name-test.true c.loop-name.invariant.taken cut)

pub loop-name-preserved : goal.loop-name-preserved
loop-name-preserved g c =
    let more = subst (λ name. Appends (g.E.Sink.bytes c.loop-name.err) (g.E.Sink.bytes c.write_arrowed.new.err) (arrowed name)) c.name-item.is c.in_ok-write_arrowed.ensures.ok in
    record {
      taken = each_more arrowed _ _ _ c.args.names.now _ _ c.loop-name-test.true c.loop-name.invariant.taken more;
      faults = omega (arith, c.write_arrowed.ensures.never_falls, c.loop-name.invariant.faults);
    }
