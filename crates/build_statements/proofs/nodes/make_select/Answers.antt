use Rattle.std.proofs.Common.{ap, ◌∙◌}
use Rattle.comet_syntax.specs.declared.token.Word.TheVariants as words
use Rattle.comet_syntax.specs.Grammar.Statements.{statement_select}
use Rattle.comet_syntax.specs.Written.Expressions.{written_generators, generators_text}
use Rattle.comet_syntax.specs.Written.Statements.{written_statement, over_text}
use Rattle.build_statements.proofs.Trees.{written_select}
use Rattle.build_statements.proofs.nodes.make_select.Goals as goal

pub returns : goal.returns
returns c = written_select c.args.place c.in_ok-generators.generators c.in_ok-generators.body
    ∙ ap (λ x. over_text statement_select words.Select c.args.place (generators_text (written_generators x)) (written_statement c.in_ok-generators.body.value)) c.in_ok-generators.ensures.0
    ∙ ap (λ x. over_text statement_select words.Select c.args.place (generators_text (written_generators c.args.generators)) (written_statement x)) c.in_ok-generators.ensures.1
