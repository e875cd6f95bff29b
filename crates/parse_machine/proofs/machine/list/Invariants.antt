use Rattle.parse_machine.proofs.Running.{Going}
use Rattle.parse_machine.proofs.Turns.{turns}
use Rattle.parse_machine.proofs.machine.list.Given as goal

abbrev pub invariant-loop-stack : goal.invariant-loop-stack
invariant-loop-stack l = Going l.tokens l.log.items l.stack l.rest

abbrev pub decreases-loop-stack : goal.decreases-loop-stack
decreases-loop-stack l = turns l.stack l.rest
