-- What was taken so far is the front before what is left.
use Rattle.std.proofs.Common.{◌≡◌, ◌≤◌, ◌++◌, ℕ, List, length}
use Rattle.stream_run.specs.Buffering.{taken_by}
use Rattle.stream_run.proofs.buffered.Buffered.put_through.Given as goal

abbrev pub invariant-loop-left : goal.invariant-loop-left
invariant-loop-left g l =
    record {
      taken : (front : List ℕ) × (l.bytes ≡ front ++ l.left) × (taken_by l.self.wire.told l.self.sent l.self.waiting.items ≡ taken_by l.fn.self.wire.told l.fn.self.sent l.fn.self.waiting.items ++ front);
      failures : l.fn.self.failures ≤ l.self.failures;
    }

abbrev pub decreases-loop-left : goal.decreases-loop-left
decreases-loop-left g l = length l.left
