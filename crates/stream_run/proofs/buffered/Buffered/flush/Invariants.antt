-- What was taken stays, while it is sent.
use Rattle.std.proofs.Common.{◌≡◌, ◌-◌, length}
use Rattle.stream_run.specs.Buffering.{taken_by}
use Rattle.stream_run.proofs.buffered.Buffered.flush.Given as goal

abbrev pub invariant-loop-self : goal.invariant-loop-self
invariant-loop-self g l = (taken_by l.self.wire.told l.self.sent l.self.waiting.items ≡ taken_by l.initial.self.wire.told l.initial.self.sent l.initial.self.waiting.items) × (l.self.failures ≡ l.initial.self.failures)

abbrev pub decreases-loop-self : goal.decreases-loop-self
decreases-loop-self g l = length l.self.waiting.items - l.self.sent
