use Rattle.main_constraints.proofs.MostEqual.{most_equal-le-length}
use Rattle.main_constraints.proofs.all_equal.violations_of.Goals as goal

pub overflow_sub-numbers : goal.overflow_sub-numbers
overflow_sub-numbers c = rw c.in_ok-most.ensures (most_equal-le-length c.args.numbers.now)
