use Rattle.loop_tests.proofs.Declared.{declared}
use Rattle.loop_tests.proofs.loops.report_all.Goals as goal

pub run_loop-requires-clause-takes : goal.run_loop-requires-clause-takes
run_loop-requires-clause-takes g c lifetimes lives k replies q small asks = declared _ _ k replies q c.in_ok-board.ensures asks
