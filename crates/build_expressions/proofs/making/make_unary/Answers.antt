use Rattle.std.proofs.Common.{ap, ◌∙◌}
use Rattle.comet_syntax.specs.Written.Expressions.{written, unary}
use Rattle.parse_stacks.proofs.Trees.{written_unary}
use Rattle.build_expressions.proofs.making.make_unary.Goals as goal

pub returns : goal.returns
returns c = written_unary c.args.operator c.args.place c.in_ok-operand.operand
    ∙ ap (λ x. unary c.args.operator c.args.place (written x)) c.in_ok-operand.ensures.ok
