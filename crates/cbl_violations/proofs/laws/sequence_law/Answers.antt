use Rattle.cbl_violations.proofs.SequenceLaws.{windows_hold, windows_nonneg, windows_quiet}
use Rattle.cbl_violations.proofs.laws.sequence_law.Goals as goal

pub returns-clause-holds : goal.returns-clause-holds
returns-clause-holds c = windows_hold

pub returns-clause-never_negative : goal.returns-clause-never_negative
returns-clause-never_negative c = windows_nonneg

pub returns-clause-places : goal.returns-clause-places
returns-clause-places c = windows_quiet
