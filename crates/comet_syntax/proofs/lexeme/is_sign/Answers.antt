use Rattle.std.proofs.Common.{◌∙◌, ap, not, sym}
use Rattle.comet_syntax.proofs.Words.{empty_no_sign, letter_no_sign, sign_is_found}
use Rattle.comet_syntax.proofs.lexeme.is_sign.Goals as goal

pub returns-in-None : goal.returns-in-None
returns-in-None c = empty_no_sign c.args.bytes.now c.in-None.ensures.cases

pub returns-then-not-is_letter : goal.returns-then-not-is_letter
returns-then-not-is_letter c = c.is_some.ensures ∙ sign_is_found _ c.in-Some.ensures.cases.0 (sym c.is_letter.ensures ∙ c.if-not-is_letter.true) c.word_of.ensures.some c.word_of.ensures.none

pub returns-else-not-is_letter : goal.returns-else-not-is_letter
returns-else-not-is_letter c = ap not c.if-not-is_letter.false ∙ letter_no_sign c.in-Some.ensures.cases.0 (sym c.is_letter.ensures ∙ c.if-not-is_letter.false)
