use Rattle.std.proofs.Common.{◌∙◌, sym}
use Rattle.comet_syntax.proofs.Lexing.{words_of, words_longest, numbers_of, numbers_longest}
use Rattle.comet_syntax.proofs.lexeme.lexeme_len.Goals as goal

pub returns-then-is_letter-clause-is_lexeme : goal.returns-then-is_letter-clause-is_lexeme
returns-then-is_letter-clause-is_lexeme c = λ some. words_of _ _ _ _ c.in-Some.ensures.cases.0 (sym c.is_letter.ensures ∙ c.if-is_letter.true) c.word_len.ensures

pub returns-then-is_letter-clause-longest : goal.returns-then-is_letter-clause-longest
returns-then-is_letter-clause-longest c = words_longest _ _ _ _ c.in-Some.ensures.cases.0 (sym c.is_letter.ensures ∙ c.if-is_letter.true) c.word_len.ensures

pub returns-then-is_digit-clause-is_lexeme : goal.returns-then-is_digit-clause-is_lexeme
returns-then-is_digit-clause-is_lexeme c = λ some. numbers_of _ _ _ _ c.in-Some.ensures.cases.0 (sym c.is_digit.ensures ∙ c.if-is_digit.true) c.number_len.ensures

pub returns-then-is_digit-clause-longest : goal.returns-then-is_digit-clause-longest
returns-then-is_digit-clause-longest c = numbers_longest _ _ _ _ c.in-Some.ensures.cases.0 (sym c.is_digit.ensures ∙ c.if-is_digit.true) c.number_len.ensures
