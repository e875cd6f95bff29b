use Rattle.std.proofs.Common.{ap, ◌∙◌}
use Rattle.comet_syntax.specs.Written.Expressions.{written_generators, generators_text}
use Rattle.comet_syntax.specs.Written.Declarations.{whole_text}
use Rattle.comet_syntax.specs.Written.Statements.{written_statement, select_by_text}
use Rattle.build_statements.proofs.Trees.{written_select_by}
use Rattle.build_statements.proofs.nodes.make_select_by.Goals as goal

pub returns : goal.returns
returns c = written_select_by c.args.place c.args.extreme c.in_ok-generators.generators c.in_ok-generators.key c.in_ok-generators.body
    ∙ ap (λ x. select_by_text c.args.extreme c.args.place (generators_text (written_generators x)) (whole_text c.in_ok-generators.key.value) (written_statement c.in_ok-generators.body.value)) c.in_ok-generators.ensures.0
    ∙ ap (λ x. select_by_text c.args.extreme c.args.place (generators_text (written_generators c.args.generators)) (whole_text x) (written_statement c.in_ok-generators.body.value)) c.in_ok-generators.ensures.1
    ∙ ap (λ x. select_by_text c.args.extreme c.args.place (generators_text (written_generators c.args.generators)) (whole_text c.args.key) (written_statement x)) c.in_ok-generators.ensures.2
