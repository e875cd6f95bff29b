use Rattle.std.proofs.Common.{◌≡◌}
use Rattle.std.specs.Prelude.{vec_len}
use Rattle.std.specs.List.{All}
use Rattle.parall_loop.specs.Runs.{IsFresh, HasSplit}
use Rattle.parall_loop.proofs.running.seat_workers.Given as goal

abbrev pub invariant-loop-worker : goal.invariant-loop-worker
invariant-loop-worker g l = record {
  split : HasSplit l.turn l.claims l._worker l.first.seat l.first.claimer;
  fresh : All (λ w. IsFresh l.turn l.claims w.seat w.claimer) l.seated.items;
  count : vec_len l.seated ≡ l._worker;
}
