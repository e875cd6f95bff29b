use Rattle.std.proofs.Common.{◌≡◌, ◌++◌, rules, get_or, ap, ◌∙◌}
use Rattle.journal_text.specs.Grammar.{loop_lines, ended}
use Rattle.journal_text.proofs.PrintLaws.{loops_more}
use Rattle.journal_text.proofs.printing.push_loops.Goals as goal

pub loop-history-preserved : goal.loop-history-preserved
loop-history-preserved c =
    let same : c.history-item.result ≡ get_or c.args.loops.now c.loop-history.history-index c.history-item.result = search rules in
    loops_more c.args.version.now c.args.loops.now c.loop-history.history-index c.history-item.result c.loop-history.out.items c.push_loop.new.out.items _ c.loop-history-test.true
    (c.in_ok-push_loop.ensures ∙ ap (λ h. c.loop-history.out.items ++ ended (loop_lines c.args.version.now h)) same) c.loop-history.invariant
