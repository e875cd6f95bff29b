-- The buffer begins empty, and what the sink has got at the end is what the run's output took, up to the last write.
use Rattle.std.proofs.Common.{◌≡◌, ◌∙◌, [], arith, is_ok, refl, sym, subst}
use Rattle.checked_tree.specs.Tasks.{program_of}
use Rattle.comet_meaning.specs.Program.{run}
use Rattle.run_standing.specs.Seen.{standing_seen}
use Rattle.stmt_run.specs.Ending.{EndsAs}
use Rattle.stream_run.specs.Buffering.{taken_by}
use Rattle.stream_run.proofs.Streams.{appended_nothing, on_ok, streams, write_failed}
use Rattle.stream_run.proofs.stream.run_lent.Goals as goal

pub invariant_of-buffered : goal.invariant_of-buffered
invariant_of-buffered g c =
    record {
      lent = c.requires.lender;
      kept = c.requires.bytes ∙ sym (appended_nothing g.B.Begin.bytes c.new.result c.new.ensures);
      counted = omega (arith, c.requires.faults);
      failed = λ less. absurd (omega (arith, less));
      within = omega arith;
    }

pub returns-clause-meant : goal.returns-clause-meant
returns-clause-meant g c =
    let taken = taken_by c.run-ended.result.out.wire.told c.run-ended.result.out.sent c.run-ended.result.out.waiting.items in
    let nothing : taken_by c.new.result 0 c.args.waiting.items ≡ [] = rw c.new.ensures (rw c.requires.empty refl) in
    let meant : EndsAs c.run-ended.result.end c.run-ended.result.fuel taken (run (program_of c.args.program.now) (standing_seen c.args.standing [])) =
    subst (λ bytes. EndsAs c.run-ended.result.end c.run-ended.result.fuel taken (run (program_of c.args.program.now) (standing_seen c.args.standing bytes))) nothing c.run-ended.ensures.meant in
    rw c.end_with.ensures (streams c.run-ended.result.end c.run-ended.result.fuel taken _ _ _ _ (is_ok c.finish-wire.result.1) meant c.finish-wire.ensures.front c.finish-wire.ensures.kept (on_ok c.finish-wire.result.1 c.finish-wire.ensures.ok))

pub returns-clause-failed : goal.returns-clause-failed
returns-clause-failed g c = λ is. write_failed c.run-ended.result.end c.finish-wire.result.1 _ _ c.finish-wire.ensures.failed (rw (sym c.end_with.ensures) is)
