use Rattle.node_states.proofs.AnyOrder.{Makes}
use Rattle.node_states.proofs.ordered.changes_at.Given as goal

abbrev pub invariant-loop-at : goal.invariant-loop-at
invariant-loop-at l = Makes l.from l.held.items l.changes.items
