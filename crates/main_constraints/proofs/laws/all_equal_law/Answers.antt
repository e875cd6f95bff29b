use Rattle.main_constraints.proofs.AllEqualLaw.{holds, fewest, reached}
use Rattle.main_constraints.proofs.laws.all_equal_law.Goals as goal

pub returns-clause-holds : goal.returns-clause-holds
returns-clause-holds c = holds

pub returns-clause-fewest : goal.returns-clause-fewest
returns-clause-fewest c = fewest

pub returns-clause-reached : goal.returns-clause-reached
returns-clause-reached c = reached
