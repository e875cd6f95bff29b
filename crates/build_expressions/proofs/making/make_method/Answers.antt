use Rattle.std.proofs.Common.{ap, ◌∙◌, map}
use Rattle.comet_syntax.specs.Written.Expressions.{written_argument}
use Rattle.parse_stacks.specs.Levels.{method_text}
use Rattle.parse_stacks.proofs.Trees.{method_of}
use Rattle.build_expressions.proofs.making.make_method.Goals as goal

pub returns : goal.returns
returns c = method_of c.args.name c.in_order-arguments.result
    ∙ ap (λ x. method_text c.args.name (map written_argument x)) c.in_order-arguments.ensures
