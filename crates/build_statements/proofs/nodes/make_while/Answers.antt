use Rattle.std.proofs.Common.{ap, ◌∙◌}
use Rattle.comet_syntax.specs.Written.Declarations.{whole_text}
use Rattle.comet_syntax.specs.Written.Statements.{written_statement, while_text}
use Rattle.build_statements.proofs.Trees.{written_while}
use Rattle.build_statements.proofs.nodes.make_while.Goals as goal

pub returns : goal.returns
returns c = written_while c.args.place c.in_ok-test.test c.in_ok-test.body
    ∙ ap (λ x. while_text c.args.place (whole_text x) (written_statement c.in_ok-test.body.value)) c.in_ok-test.ensures.0
    ∙ ap (λ x. while_text c.args.place (whole_text c.args.test) (written_statement x)) c.in_ok-test.ensures.1
