use Rattle.std.proofs.Common.{ap, ◌∙◌}
use Rattle.comet_syntax.specs.Written.Expressions.{written, extreme_of}
use Rattle.parse_stacks.proofs.Trees.{written_extreme}
use Rattle.build_expressions.proofs.making.make_extreme.Goals as goal

pub returns : goal.returns
returns c = written_extreme c.args.extreme c.args.place c.in_ok-left.left c.in_ok-left.right
    ∙ (ap (λ x. extreme_of c.args.extreme c.args.place (written x) (written c.in_ok-left.right.value)) c.in_ok-left.ensures.0
    ∙ ap (λ x. extreme_of c.args.extreme c.args.place (written c.args.left) (written x)) c.in_ok-left.ensures.1)
