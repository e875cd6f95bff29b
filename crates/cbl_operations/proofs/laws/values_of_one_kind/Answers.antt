use Rattle.cbl_operations.proofs.KindLaws.{kind_of_values, one_kind}
use Rattle.cbl_operations.proofs.laws.values_of_one_kind.Goals as goal

pub returns-clause-kind : goal.returns-clause-kind
returns-clause-kind c = kind_of_values

pub returns-clause-one_kind : goal.returns-clause-one_kind
returns-clause-one_kind c = one_kind
