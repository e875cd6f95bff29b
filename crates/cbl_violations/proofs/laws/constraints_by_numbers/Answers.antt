use Rattle.cbl_violations.proofs.ConstraintNumbers.{constraint_same}
use Rattle.cbl_violations.proofs.laws.constraints_by_numbers.Goals as goal

pub returns : goal.returns
returns c = constraint_same
