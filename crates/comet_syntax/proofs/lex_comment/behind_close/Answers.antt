use Rattle.comet_syntax.proofs.Comments.{close_at}
use Rattle.comet_syntax.proofs.lex_comment.behind_close.Goals as goal

pub returns-then-starts_with-clause-some : goal.returns-then-starts_with-clause-some
returns-then-starts_with-clause-some c = (_, close_at _ _ _ c.loop-at-test.true c.starts_with.ensures.value c.if-starts_with.true c.loop-at.invariant)
