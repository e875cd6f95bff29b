use Rattle.parall_loop.specs.Runs.{HasRun}
use Rattle.parall_loop.proofs.worker.work.Given as goal

-- what it has run so far
abbrev pub invariant-loop : goal.invariant-loop
invariant-loop g l = (goal.iterator-loop g).can_next l.iterator' × (goal.iterator-loop g).is_finite l.iterator' × HasRun l.turn l.claims (g.B.IterBody.asks l.body) g.B.IterBody.stop l.seat l.claimer l.outcomes.items
