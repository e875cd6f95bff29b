use Rattle.std.proofs.Common.{◌≡◌, length}
use Rattle.loop_tests.proofs.loops.is_told_as_asked.Given as goal

abbrev pub invariant-loop-entry : goal.invariant-loop-entry
invariant-loop-entry l = length l.board ≡ 1
