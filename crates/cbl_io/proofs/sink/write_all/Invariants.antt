-- What was taken so far is the front before what is left.
use Rattle.std.proofs.Common.{◌≡◌, ◌≤◌, ◌++◌, ℕ, List, length}
use Rattle.cbl_io.specs.Appended.{Appends}
use Rattle.cbl_io.proofs.sink.write_all.Given as goal

abbrev pub invariant-loop-left : goal.invariant-loop-left
invariant-loop-left g l =
    record {
      taken : (front : List ℕ) × (l.bytes ≡ front ++ l.left) × Appends (g.S.Sink.bytes l.fn.sink) (g.S.Sink.bytes l.sink) front;
      faults : g.S.Sink.faults l.fn.sink ≤ g.S.Sink.faults l.sink;
    }

abbrev pub decreases-loop-left : goal.decreases-loop-left
decreases-loop-left g l = length l.left
