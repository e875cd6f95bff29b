use Rattle.main_constraints.proofs.IncreasingLaw.{holds}
use Rattle.main_constraints.proofs.laws.increasing_law.Goals as goal

pub returns : goal.returns
returns c = holds
