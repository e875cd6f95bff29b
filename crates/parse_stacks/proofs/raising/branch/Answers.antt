use Rattle.std.proofs.Common.{ap, ◌∙◌}
use Rattle.comet_syntax.specs.Written.Expressions.{written, conditional}
use Rattle.parse_stacks.proofs.Trees.{written_conditional}
use Rattle.parse_stacks.proofs.raising.branch.Goals as goal

pub returns-in_ok-test-in-Some : goal.returns-in_ok-test-in-Some
returns-in_ok-test-in-Some c = rw c.in-Some.is (written_conditional c.in_ok-test-in-Some.test c.in_ok-test-in-Some.then c.in_ok-test-in-Some.otherwise
    ∙ (ap (λ x. conditional (written x) (written c.in_ok-test-in-Some.then.value) (written c.in_ok-test-in-Some.otherwise.value)) c.in_ok-test-in-Some.ensures.0
    ∙ (ap (λ x. conditional (written c.args.test) (written x) (written c.in_ok-test-in-Some.otherwise.value)) c.in_ok-test-in-Some.ensures.1
    ∙ ap (λ x. conditional (written c.args.test) (written c.in-Some.behind.then) (written x)) c.in_ok-test-in-Some.ensures.2)))
