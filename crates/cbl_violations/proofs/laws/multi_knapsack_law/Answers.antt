use Rattle.cbl_violations.proofs.LoadLaws.{bins_hold, bins_nonneg, bins_quiet}
use Rattle.cbl_violations.proofs.laws.multi_knapsack_law.Goals as goal

pub returns-clause-holds : goal.returns-clause-holds
returns-clause-holds c = bins_hold

pub returns-clause-never_negative : goal.returns-clause-never_negative
returns-clause-never_negative c = bins_nonneg

pub returns-clause-places : goal.returns-clause-places
returns-clause-places c = bins_quiet
