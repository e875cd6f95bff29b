use Rattle.cbl_violations.proofs.CombinedLaws.{total_nonneg}
use Rattle.cbl_violations.proofs.laws.total_law.Goals as goal

pub returns-clause-never_negative : goal.returns-clause-never_negative
returns-clause-never_negative c = total_nonneg
