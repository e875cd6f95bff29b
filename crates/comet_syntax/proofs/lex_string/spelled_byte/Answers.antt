use Rattle.std.proofs.Common.{sym, ◌∙◌}
use Rattle.comet_syntax.proofs.Strings.{plain_at, escaped_at}
use Rattle.comet_syntax.proofs.lex_string.spelled_byte.Goals as goal

pub returns-then-is_plain-clause-some : goal.returns-then-is_plain-clause-some
returns-then-is_plain-clause-some c = plain_at c.in_ok-first.ensures.cases.0 (sym c.is_plain.ensures ∙ c.if-is_plain.true)

pub returns-clause-some : goal.returns-clause-some
returns-clause-some c = escaped_at c.in_ok-first.ensures.cases.0 c.in_ok-letter.ensures.cases.0 c.if-first-ne92.false (sym c.in_ok-byte.ensures)
