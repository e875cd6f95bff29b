use Rattle.std.proofs.Common.{◌≡◌, length}
use Rattle.best_turn.specs.Seats.{IsSeatOf, view_of}
use Rattle.monitor_tests.proofs.monitors.report_all.Given as goal

abbrev pub invariant-loop-i : goal.invariant-loop-i
invariant-loop-i g l = IsSeatOf l.turn l.seat × (length (view_of l.seat).made ≡ length (view_of l.initial.seat).made) × ((view_of l.seat).rest ≡ (view_of l.initial.seat).rest)
