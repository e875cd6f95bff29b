use Rattle.cbl_violations.proofs.CardinalityLaws.{exactly_holds, exactly_nonneg, exactly_quiet}
use Rattle.cbl_violations.proofs.laws.exactly_law.Goals as goal

pub returns-clause-holds : goal.returns-clause-holds
returns-clause-holds c = exactly_holds

pub returns-clause-never_negative : goal.returns-clause-never_negative
returns-clause-never_negative c = exactly_nonneg

pub returns-clause-places : goal.returns-clause-places
returns-clause-places c = exactly_quiet
