use Rattle.std.proofs.Common.{ap, ◌∙◌}
use Rattle.comet_syntax.specs.Written.Declarations.{whole_text}
use Rattle.comet_syntax.specs.Written.Statements.{written_statement, neighbor_text}
use Rattle.build_statements.proofs.Trees.{written_neighbor}
use Rattle.build_statements.proofs.nodes.make_neighbor.Goals as goal

pub returns : goal.returns
returns c = written_neighbor c.args.place c.in_ok-key.key c.args.selector c.in_ok-key.body
    ∙ ap (λ x. neighbor_text c.args.place (whole_text x) c.args.selector (written_statement c.in_ok-key.body.value)) c.in_ok-key.ensures.0
    ∙ ap (λ x. neighbor_text c.args.place (whole_text c.args.key) c.args.selector (written_statement x)) c.in_ok-key.ensures.1
