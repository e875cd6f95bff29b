use Rattle.std.proofs.Common.{ap, ◌∙◌}
use Rattle.comet_syntax.specs.Written.Declarations.{whole_text}
use Rattle.comet_syntax.specs.Written.Statements.{written_statement, option_text, if_text, unboxed}
use Rattle.build_statements.proofs.Trees.{written_if}
use Rattle.build_statements.proofs.nodes.make_if.Goals as goal

pub returns : goal.returns
returns c = written_if c.args.place c.in_ok-test.test c.in_ok-test.then c.in_ok-test.otherwise
    ∙ ap (λ x. if_text c.args.place (whole_text x) (written_statement c.in_ok-test.then.value) (option_text written_statement (unboxed c.in_ok-test.otherwise))) c.in_ok-test.ensures.0
    ∙ ap (λ x. if_text c.args.place (whole_text c.args.test) (written_statement x) (option_text written_statement (unboxed c.in_ok-test.otherwise))) c.in_ok-test.ensures.1
    ∙ ap (λ x. if_text c.args.place (whole_text c.args.test) (written_statement c.args.then) (option_text written_statement x)) c.in_ok-test.ensures.2
