use Rattle.std.proofs.Common.{sym, ◌∙◌}
use Rattle.comet_syntax.proofs.Words.{entry_spelled}
use Rattle.comet_syntax.proofs.word.word_in.Goals as goal

pub returns-then-eq-clause-some : goal.returns-then-eq-clause-some
returns-then-eq-clause-some c = entry_spelled c.args.row.now _ _ c.as_bytes.result.now _ c.loop-entry-test.true c.loop-entry.invariant.right c.as_bytes.ensures.value (sym c.eq.ensures ∙ c.if-eq.true)
