use Rattle.cbl_operations.proofs.KindLaws.{not_violated}
use Rattle.cbl_operations.proofs.laws.operations_have_no_violation.Goals as goal

pub returns : goal.returns
returns c = not_violated
