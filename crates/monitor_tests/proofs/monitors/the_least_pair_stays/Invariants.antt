use Rattle.std.proofs.Common.{◌≡◌, length}
use Rattle.monitor_tests.proofs.monitors.the_least_pair_stays.Given as goal

abbrev pub invariant-loop-row : goal.invariant-loop-row
invariant-loop-row g l = length l.board ≡ 1
