use Rattle.std.proofs.Common.{length}
use Rattle.std.specs.Prelude.{IfSome}
use Rattle.std.specs.List.{AllByRecursion}
use Rattle.std.specs.Vec.Iter.{into_iter_items}
use Rattle.parall_loop.specs.Runs.{HasEnded, HasTakenIn}
use Rattle.parall_loop.proofs.running.run_workers.Given as goal

-- what was taken in, and what is left
abbrev pub invariant-loop-one : goal.invariant-loop-one
invariant-loop-one g l = record {
  taken : HasTakenIn l.turn l.claims (g.B.IterBody.asks l.fn.body) g.B.IterBody.stop l.fn.workers (length (into_iter_items l.one-iterator)) l.first.seat l.first.claimer l.places.items;
  left : AllByRecursion (λ one. IfSome one (λ w. HasEnded l.turn l.claims (g.B.IterBody.asks l.fn.body) g.B.IterBody.stop w.seat w.claimer w.outcomes.items)) (into_iter_items l.one-iterator);
}
