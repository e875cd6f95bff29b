use Rattle.std.proofs.Common.{rules, ◌≡◌, ◌∷◌, [], ◌∙◌, ap, sym, subst}
use Rattle.cbl_base.specs.declared.limits.TheConstants.{MAX_NESTING}
use Rattle.comet_syntax.specs.Grammar.Kinds.{kind, next_in}
use Rattle.comet_syntax.specs.Grammar.Symbols.{token}
use Rattle.parse_base.specs.Promise.{Fails}
use Rattle.parse_base.proofs.Steps.{fails_wrong}
use Rattle.parse_machine.specs.Parts.{kind_in}
use Rattle.parse_machine.proofs.Choices.{differs, is_kind}
use Rattle.parse_machine.proofs.choice.read.Goals as goal

pub returns-then-is_same-clause-ok : goal.returns-then-is_same-clause-ok
returns-then-is_same-clause-ok c = let x : c.args.tokens.now ≡ c.in-Some.token.now ∷ c.in-Some.behind.now = search rules in
    record {
      next = c.in-Some.token.now;
      is = x;
      kind_is = is_kind (kind_in c.args.kind) (kind_in c.kind_of_token.result) (kind c.in-Some.token.now) (sym c.is_same.ensures ∙ c.if-is_same.true) c.kind_of_token.ensures;
    }

pub returns-else-is_same-clause-err : goal.returns-else-is_same-clause-err
returns-else-is_same-clause-err c m d = let x : c.args.tokens.now ≡ c.in-Some.token.now ∷ c.in-Some.behind.now = search rules in
    subst (λ z. Fails MAX_NESTING (token m (kind_in c.args.kind) ∷ []) d c.args.tokens.now z) (sym c.refuse.ensures)
    (fails_wrong m (kind_in c.args.kind) (rw x (differs (kind_in c.args.kind) (kind_in c.kind_of_token.result) (kind c.in-Some.token.now) (sym c.is_same.ensures ∙ c.if-is_same.false) c.kind_of_token.ensures)))

pub returns-in-None-clause-err : goal.returns-in-None-clause-err
returns-in-None-clause-err c m d = let x : c.args.tokens.now ≡ [] = search rules in
    subst (λ z. Fails MAX_NESTING (token m (kind_in c.args.kind) ∷ []) d c.args.tokens.now z) (sym c.refuse-in-None.ensures)
    (fails_wrong m (kind_in c.args.kind) (ap (next_in (kind_in c.args.kind ∷ [])) x))
