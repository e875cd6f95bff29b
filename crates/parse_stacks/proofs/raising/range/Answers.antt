use Rattle.std.proofs.Common.{ap, ◌∙◌}
use Rattle.comet_syntax.specs.Written.Expressions.{written, range_of}
use Rattle.parse_stacks.proofs.Trees.{written_range}
use Rattle.parse_stacks.proofs.raising.range.Goals as goal

pub returns-in_ok-low-in-Some : goal.returns-in_ok-low-in-Some
returns-in_ok-low-in-Some c = rw c.in-Some.is (written_range c.in_ok-low-in-Some.low c.in-Some.behind.place c.in_ok-low-in-Some.high
    ∙ (ap (λ x. range_of (written x) c.in-Some.behind.place (written c.in_ok-low-in-Some.high.value)) c.in_ok-low-in-Some.ensures.0
    ∙ ap (λ x. range_of (written c.args.low) c.in-Some.behind.place (written x)) c.in_ok-low-in-Some.ensures.1))
