use Rattle.cbl_violations.proofs.CombinedLaws.{all_hold, all_nonneg}
use Rattle.cbl_violations.proofs.laws.all_of_law.Goals as goal

pub returns-clause-holds : goal.returns-clause-holds
returns-clause-holds c = all_hold

pub returns-clause-never_negative : goal.returns-clause-never_negative
returns-clause-never_negative c = all_nonneg
