use Rattle.std.proofs.Common.{sym, ◌∙◌, subst}
use Rattle.comet_syntax.specs.Tokens.StringLiteral.{IsStringBehindQuote}
use Rattle.comet_syntax.proofs.Strings.{behind_byte, byte_more, closed_at, not_closed, begins_with_none, begins_with_other}
use Rattle.comet_syntax.proofs.lex_string.read_string.Goals as goal

pub loop-spelled-preserved : goal.loop-spelled-preserved
loop-spelled-preserved c = record {
  forward = byte_more _ c.in_ok-push.ensures.items c.in-Some.ensures.some c.loop-spelled.invariant.forward;
  backward = λ value rest string. behind_byte c.in-Some.ensures.some (c.loop-spelled.invariant.backward value rest string).1;
}

pub returns-in_default-split_first-clause-refused : goal.returns-in_default-split_first-clause-refused
returns-in_default-split_first-clause-refused c = λ is. not_closed c.in_default.ensures.none (begins_with_none c.in_default-split_first.ensures.cases) c.loop-spelled.invariant.backward

pub returns-then-first-ne34-clause-refused : goal.returns-then-first-ne34-clause-refused
returns-then-first-ne34-clause-refused c = λ is. not_closed c.in_default.ensures.none (begins_with_other c.in-Some-split_first.ensures.cases.0 c.if-first-ne34.true) c.loop-spelled.invariant.backward

pub returns-clause-ok : goal.returns-clause-ok
returns-clause-ok c = subst (λ value. IsStringBehindQuote c.args.text.now value c.in-Some-split_first.behind.now) (sym (c.in_ok-value.ensures ∙ c.as_slice.ensures.value))
    (closed_at c.in-Some-split_first.ensures.cases.0 c.if-first-ne34.false c.loop-spelled.invariant.forward)
