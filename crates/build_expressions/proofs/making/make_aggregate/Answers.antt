use Rattle.std.proofs.Common.{ap, ◌∙◌}
use Rattle.comet_syntax.specs.Written.Expressions.{aggregate, written, written_generators}
use Rattle.parse_stacks.proofs.Trees.{written_aggregate}
use Rattle.build_expressions.proofs.making.make_aggregate.Goals as goal

pub returns : goal.returns
returns c = written_aggregate c.args.kind c.args.place c.in_ok-generators.generators c.in_ok-generators.body
    ∙ (ap (λ x. aggregate c.args.kind c.args.place (written_generators x) (written c.in_ok-generators.body.value)) c.in_ok-generators.ensures.0
    ∙ ap (λ x. aggregate c.args.kind c.args.place (written_generators c.args.generators) (written x)) c.in_ok-generators.ensures.1)
