use Rattle.std.proofs.Common.{ap, ◌∙◌, map}
use Rattle.comet_syntax.specs.Written.Expressions.{set_of, written_argument}
use Rattle.parse_stacks.proofs.Trees.{written_set}
use Rattle.build_expressions.proofs.making.make_set.Goals as goal

pub returns : goal.returns
returns c = written_set c.args.place c.in_order-arguments.result
    ∙ ap (λ x. set_of c.args.place (map written_argument x)) c.in_order-arguments.ensures
