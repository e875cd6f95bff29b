use Rattle.cbl_violations.proofs.CardinalityLaws.{least_holds, least_nonneg, least_quiet}
use Rattle.cbl_violations.proofs.laws.at_least_law.Goals as goal

pub returns-clause-holds : goal.returns-clause-holds
returns-clause-holds c = least_holds

pub returns-clause-never_negative : goal.returns-clause-never_negative
returns-clause-never_negative c = least_nonneg

pub returns-clause-places : goal.returns-clause-places
returns-clause-places c = least_quiet
