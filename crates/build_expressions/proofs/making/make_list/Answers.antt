use Rattle.std.proofs.Common.{ap, ◌∙◌, map}
use Rattle.comet_syntax.specs.Written.Expressions.{list_of, written_argument}
use Rattle.parse_stacks.proofs.Trees.{written_list}
use Rattle.build_expressions.proofs.making.make_list.Goals as goal

pub returns : goal.returns
returns c = written_list c.args.place c.in_order-arguments.result
    ∙ ap (λ x. list_of c.args.place (map written_argument x)) c.in_order-arguments.ensures
