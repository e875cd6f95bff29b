use Rattle.std.proofs.Common.{◌≡◌, length}
use Rattle.monitor_tests.proofs.pools.a_pool_of_two_keeps_the_least.Given as goal

abbrev pub invariant-loop-row : goal.invariant-loop-row
invariant-loop-row g l = length l.desk.pools ≡ 1
