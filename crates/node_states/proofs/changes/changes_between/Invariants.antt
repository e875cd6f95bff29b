use Rattle.node_states.proofs.Steps.{Comes}
use Rattle.node_states.proofs.changes.changes_between.Given as goal

abbrev pub invariant-loop-place : goal.invariant-loop-place
invariant-loop-place l = Comes l.from l.to l.place l.changes.items
