use Rattle.std.proofs.Common.{sym, ◌∙◌}
use Rattle.comet_syntax.proofs.Exits.{passes}
use Rattle.comet_syntax.proofs.Fronts.{comment_front, space_front, string_front, stuck_comment, stuck_string, stuck_lexeme}
use Rattle.comet_syntax.proofs.lex_front.read_front.Goals as goal

pub returns-in_default-clause-refused : goal.returns-in_default-clause-refused
returns-in_default-clause-refused c = λ is. stuck_comment (sym c.begins_comment.ensures ∙ c.if-begins_comment.true) c.in_default.ensures.none

pub returns-then-begins_comment-clause-ok : goal.returns-then-begins_comment-clause-ok
returns-then-begins_comment-clause-ok c = comment_front c.in-Some.ensures.some

pub returns-then-is_space-clause-ok : goal.returns-then-is_space-clause-ok
returns-then-is_space-clause-ok c = space_front c.in-Some-split_first.ensures.cases.0 (sym c.is_space.ensures ∙ c.if-is_space.true)

pub returns-in_err-string-clause-refused : goal.returns-in_err-string-clause-refused
returns-in_err-string-clause-refused c = passes _ _ c.in_err-string.field-0.0 c.from_residual.ensures.1
    (λ is. stuck_string c.in-Some-split_first.ensures.cases.0 c.if-first-eq34.true (c.in_err-string.ensures.refused is))

pub returns-then-first-eq34-clause-ok : goal.returns-then-first-eq34-clause-ok
returns-then-first-eq34-clause-ok c = string_front c.in-Some-split_first.ensures.cases.0 c.if-first-eq34.true c.in_ok-string.ensures.ok

pub returns-in_err-front-clause-refused : goal.returns-in_err-front-clause-refused
returns-in_err-front-clause-refused c = passes _ _ c.in_err-front.field-0.0 c.from_residual-in_err-front.ensures.1
    (λ is. stuck_lexeme c.in-Some-split_first.ensures.cases.0 (sym c.begins_comment.ensures ∙ c.if-begins_comment.false) (sym c.is_space.ensures ∙ c.if-is_space.false)
    c.if-first-eq34.false (c.in_err-front.ensures.refused is))
