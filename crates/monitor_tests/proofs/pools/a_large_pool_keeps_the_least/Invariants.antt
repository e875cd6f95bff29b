use Rattle.std.proofs.Common.{◌≡◌, length}
use Rattle.monitor_tests.proofs.pools.a_large_pool_keeps_the_least.Given as goal

abbrev pub invariant-loop-i : goal.invariant-loop-i
invariant-loop-i g l = length l.desk.pools ≡ 1
