use Rattle.std.proofs.Common.{ap, ◌∙◌}
use Rattle.comet_syntax.specs.Written.Statements.{written_block, with_text}
use Rattle.build_statements.proofs.Trees.{written_with}
use Rattle.build_statements.proofs.nodes.make_with.Goals as goal

pub returns : goal.returns
returns c = written_with c.args.place c.args.mode c.args.solver c.in_ok-body.body
    ∙ ap (λ x. with_text c.args.place c.args.mode c.args.solver (written_block x)) c.in_ok-body.ensures.ok
