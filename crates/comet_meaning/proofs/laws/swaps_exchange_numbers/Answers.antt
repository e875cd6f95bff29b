use Rattle.std.proofs.Common.{refl}
use Rattle.comet_meaning.proofs.Computing.{everything}
use Rattle.comet_meaning.proofs.laws.swaps_exchange_numbers.Goals as goal

pub returns-clause-numbers : goal.returns-clause-numbers
unfolding everything
returns-clause-numbers c = refl

pub returns-clause-apart : goal.returns-clause-apart
unfolding everything
returns-clause-apart c = refl
