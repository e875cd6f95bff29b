use Rattle.std.proofs.Common.{ap, ◌∙◌}
use Rattle.comet_syntax.specs.Written.Expressions.{written, parentheses}
use Rattle.parse_stacks.proofs.Trees.{written_parentheses}
use Rattle.build_expressions.proofs.making.make_parentheses.Goals as goal

pub returns : goal.returns
returns c = written_parentheses c.args.place c.in_ok-inner.inner
    ∙ ap (λ x. parentheses c.args.place (written x)) c.in_ok-inner.ensures.ok
