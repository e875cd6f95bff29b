use Rattle.std.proofs.Common.{◌<◌, length}
use Rattle.best_turn.specs.Seats.{start_of, IsSeatOf}
use Rattle.monitor_tests.proofs.sleepers.call_often.Given as goal

abbrev pub invariant-loop-made : goal.invariant-loop-made
invariant-loop-made g l = IsSeatOf l.turn l.seat × (0 < length (start_of l.turn))
