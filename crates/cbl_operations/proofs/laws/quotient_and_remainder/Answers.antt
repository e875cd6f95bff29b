use Rattle.cbl_operations.proofs.QuotientLaws.{whole_division}
use Rattle.cbl_operations.proofs.laws.quotient_and_remainder.Goals as goal

pub returns : goal.returns
returns c = whole_division
