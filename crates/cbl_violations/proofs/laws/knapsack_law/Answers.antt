use Rattle.cbl_violations.proofs.LoadLaws.{knapsack_holds, knapsack_nonneg, knapsack_quiet}
use Rattle.cbl_violations.proofs.laws.knapsack_law.Goals as goal

pub returns-clause-holds : goal.returns-clause-holds
returns-clause-holds c = knapsack_holds

pub returns-clause-never_negative : goal.returns-clause-never_negative
returns-clause-never_negative c = knapsack_nonneg

pub returns-clause-places : goal.returns-clause-places
returns-clause-places c = knapsack_quiet
