use Rattle.std.proofs.Common.{ap, ◌∙◌}
use Rattle.comet_syntax.specs.Written.Expressions.{written, comparison}
use Rattle.parse_stacks.proofs.Trees.{written_comparison}
use Rattle.parse_stacks.proofs.raising.compare.Goals as goal

pub returns-in_ok-left-in-Some : goal.returns-in_ok-left-in-Some
returns-in_ok-left-in-Some c = rw c.in-Some.is (written_comparison c.in_ok-left-in-Some.left c.in-Some.behind.comparison c.in-Some.behind.place c.in_ok-left-in-Some.right
    ∙ (ap (λ x. comparison (written x) c.in-Some.behind.comparison c.in-Some.behind.place (written c.in_ok-left-in-Some.right.value)) c.in_ok-left-in-Some.ensures.0
    ∙ ap (λ x. comparison (written c.args.left) c.in-Some.behind.comparison c.in-Some.behind.place (written x)) c.in_ok-left-in-Some.ensures.1))
