use Rattle.loop_tests.proofs.Declared.{both_declared}
use Rattle.loop_tests.proofs.desk_loops.find_all.Goals as goal

pub returns : goal.returns
returns g c = both_declared c.in_ok-desk.desk c.in_ok-left.left.state c.in_ok-left.left.history.items c.in_ok-left.ensures.legal c.in_ok-left.ensures.state c.in_ok-desk.ensures.0 c.in_ok-desk.ensures.1
