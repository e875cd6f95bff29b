use Rattle.std.proofs.Common.{rules, sym, ◌∙◌, subst}
use Rattle.comet_syntax.specs.declared.token.TokenKind.TheVariants.{Name}
use Rattle.comet_syntax.specs.Tokens.Front.{IsOfKind, a_name, a_word}
use Rattle.comet_syntax.proofs.TokenKinds.{kind_number}
use Rattle.comet_syntax.proofs.Words.{else_a_name}
use Rattle.comet_syntax.proofs.lex_front.kind_of.Goals as goal

pub returns-then-is_number-clause-ok : goal.returns-then-is_number-clause-ok
returns-then-is_number-clause-ok c = kind_number c.args.lexeme.now c.in_ok-number.number (sym c.is_number.ensures ∙ c.if-is_number.true) (sym c.in_ok-number.ensures.ok_part ∙ c.number.ensures) (search rules)

pub returns-in-Some-clause-ok : goal.returns-in-Some-clause-ok
returns-in-Some-clause-ok c = a_word c.in-Some.ensures.some

pub returns-clause-ok : goal.returns-clause-ok
returns-clause-ok c = subst (λ name. IsOfKind c.args.lexeme.now (Name name)) (sym c.in_ok-name.ensures)
    (a_name (else_a_name c.args.lexeme.now c.requires (sym c.is_number.ensures ∙ c.if-is_number.false) c.in_default.ensures.none))
