use Rattle.std.proofs.Common.{ap, ◌∙◌}
use Rattle.comet_syntax.specs.declared.token.Word.TheVariants as words
use Rattle.comet_syntax.specs.Grammar.Statements.{statement_return}
use Rattle.comet_syntax.specs.Written.Shown.{word}
use Rattle.comet_syntax.specs.Written.Statements.{statement_by, value_text}
use Rattle.build_statements.proofs.Trees.{written_return}
use Rattle.build_statements.proofs.nodes.make_return.Goals as goal

pub returns : goal.returns
returns c = written_return c.args.place c.in_ok-value.value
    ∙ ap (λ x. (λ behind. statement_by statement_return words.Return c.args.place (value_text x (word words.Semicolon behind)))) c.in_ok-value.ensures
