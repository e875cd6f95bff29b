use Rattle.std.proofs.Common.{rules, ◌≡◌, ◌∷◌, ◌∙◌, ap, map}
use Rattle.comet_syntax.specs.Grammar.Kinds.{one_of}
use Rattle.parse_machine.specs.Parts.{kind_in}
use Rattle.parse_machine.proofs.Choices.{among}
use Rattle.parse_machine.proofs.choice.is_next.Goals as goal

pub returns-in-Some : goal.returns-in-Some
returns-in-Some c = let x : c.args.tokens.now ≡ c.in-Some.token.now ∷ c.in-Some.field-0-1.now = search rules in
    rw x (c.is_among.ensures ∙ (among (kind_in c.kind_of_token.result) c.args.kinds.now ∙ ap (λ z. one_of (map kind_in c.args.kinds.now) z) c.kind_of_token.ensures))
