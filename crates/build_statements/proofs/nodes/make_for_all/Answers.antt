use Rattle.std.proofs.Common.{ap, ◌∙◌}
use Rattle.comet_syntax.specs.declared.token.Word.TheVariants as words
use Rattle.comet_syntax.specs.Grammar.Statements.{statement_for_all}
use Rattle.comet_syntax.specs.Written.Expressions.{written_generators, generators_text}
use Rattle.comet_syntax.specs.Written.Statements.{written_statement, over_text}
use Rattle.build_statements.proofs.Trees.{written_for_all}
use Rattle.build_statements.proofs.nodes.make_for_all.Goals as goal

pub returns : goal.returns
returns c = written_for_all c.args.place c.in_ok-generators.generators c.in_ok-generators.body
    ∙ ap (λ x. over_text statement_for_all words.ForAll c.args.place (generators_text (written_generators x)) (written_statement c.in_ok-generators.body.value)) c.in_ok-generators.ensures.0
    ∙ ap (λ x. over_text statement_for_all words.ForAll c.args.place (generators_text (written_generators c.args.generators)) (written_statement x)) c.in_ok-generators.ensures.1
