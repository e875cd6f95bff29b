use Rattle.std.proofs.Common.{ap, ◌∙◌}
use Rattle.comet_syntax.specs.Written.Statements.{written_statement, for_head_text}
use Rattle.build_statements.proofs.Trees.{written_for}
use Rattle.build_statements.proofs.nodes.make_for.Goals as goal

pub returns : goal.returns
returns c = written_for c.args.place c.in_ok-head.head c.in_ok-head.body
    ∙ ap (λ x. for_head_text c.args.place x (written_statement c.in_ok-head.body.value)) c.in_ok-head.ensures.0
    ∙ ap (λ x. for_head_text c.args.place (record { start = c.args.start; test = c.args.test; step = c.args.step }) (written_statement x)) c.in_ok-head.ensures.1
