use Rattle.std.proofs.Common.{◌+◌, ◌<◌, length}
use Rattle.best_turn.specs.Seats.{start_of, IsSeatOf, view_of}
use Rattle.monitor_tests.proofs.sleepers.call_from_all.Given as goal

abbrev pub invariant-loop-number : goal.invariant-loop-number
invariant-loop-number g l = IsSeatOf l.turn l.first × (0 < length (start_of l.turn)) × (64 < (view_of l.first).rest + l.number)
