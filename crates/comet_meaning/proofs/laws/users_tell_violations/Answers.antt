use Rattle.comet_meaning.proofs.UserLaws.{equal_over, increasing_over}
use Rattle.comet_meaning.proofs.laws.users_tell_violations.Goals as goal

pub returns-clause-equal : goal.returns-clause-equal
returns-clause-equal c = equal_over

pub returns-clause-increasing : goal.returns-clause-increasing
returns-clause-increasing c = increasing_over
