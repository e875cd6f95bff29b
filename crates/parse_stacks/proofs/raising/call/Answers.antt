use Rattle.std.proofs.Common.{ap, ◌∙◌, map}
use Rattle.comet_syntax.specs.Written.Expressions.{call_of, written_argument}
use Rattle.parse_stacks.proofs.Trees.{written_name, written_call}
use Rattle.parse_stacks.proofs.raising.call.Goals as goal

pub returns-in-None : goal.returns-in-None
returns-in-None c = rw c.in-None.is (written_name c.args.name)

pub returns-in_ok-name-in-Some : goal.returns-in_ok-name-in-Some
returns-in_ok-name-in-Some c = rw c.in-Some.is (written_call c.in_ok-name-in-Some.name c.in-Some.arguments
    ∙ ap (λ n. call_of n (map written_argument c.in-Some.arguments.items)) c.in_ok-name-in-Some.ensures.ok)
