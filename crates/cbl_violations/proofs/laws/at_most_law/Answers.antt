use Rattle.cbl_violations.proofs.CardinalityLaws.{most_holds, most_nonneg, most_quiet}
use Rattle.cbl_violations.proofs.laws.at_most_law.Goals as goal

pub returns-clause-holds : goal.returns-clause-holds
returns-clause-holds c = most_holds

pub returns-clause-never_negative : goal.returns-clause-never_negative
returns-clause-never_negative c = most_nonneg

pub returns-clause-places : goal.returns-clause-places
returns-clause-places c = most_quiet
