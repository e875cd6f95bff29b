use Rattle.cbl_violations.proofs.AllDifferentLaw.{differ, not_negative, quiet}
use Rattle.cbl_violations.proofs.laws.all_different_law.Goals as goal

pub returns-clause-holds : goal.returns-clause-holds
returns-clause-holds c = differ

pub returns-clause-never_negative : goal.returns-clause-never_negative
returns-clause-never_negative c = not_negative

pub returns-clause-places : goal.returns-clause-places
returns-clause-places c = quiet
