use Rattle.cbl_operations.proofs.OpNumbers.{unary_same, binary_same, nary_same, keyed_same, two_sets_same}
use Rattle.cbl_operations.proofs.laws.operations_by_number.Goals as goal

pub returns-clause-unary : goal.returns-clause-unary
returns-clause-unary c = unary_same

pub returns-clause-binary : goal.returns-clause-binary
returns-clause-binary c = binary_same

pub returns-clause-nary : goal.returns-clause-nary
returns-clause-nary c = nary_same

pub returns-clause-keyed : goal.returns-clause-keyed
returns-clause-keyed c = keyed_same

pub returns-clause-two_sets : goal.returns-clause-two_sets
returns-clause-two_sets c = two_sets_same
