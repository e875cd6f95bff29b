-- A byte that is no blank belongs to the word.
use Rattle.std.proofs.Common.{sym, ◌∙◌}
use Rattle.run_state.proofs.WordLaws.{word_goes_on}
use Rattle.run_state.proofs.words.word_end.Goals as goal

pub loop-next-preserved : goal.loop-next-preserved
loop-next-preserved c = word_goes_on _ _ _ c.loop-next.invariant c.loop-next-test.true (sym c.is_blank.ensures ∙ c.if-not-is_blank.true)
