use Rattle.std.proofs.Common.{not}
use Rattle.cbl_base.specs.Sets.{is_member}
use Rattle.cbl_operations.proofs.SetLaws.{of_either, of_those}
use Rattle.cbl_operations.proofs.laws.members_of_sets.Goals as goal

pub returns-clause-union : goal.returns-clause-union
returns-clause-union c = λ s t u e. of_either s t u e

pub returns-clause-inter : goal.returns-clause-inter
returns-clause-inter c = λ s t u e. of_those (λ v. is_member v t) s u e

pub returns-clause-minus : goal.returns-clause-minus
returns-clause-minus c = λ s t u e. of_those (λ v. not (is_member v t)) s u e
