use Rattle.std.proofs.Common.{refl}
use Rattle.comet_meaning.proofs.Computing.{everything}
use Rattle.comet_meaning.proofs.laws.draws_take_words.Goals as goal

pub returns-clause-draws : goal.returns-clause-draws
unfolding everything
returns-clause-draws c = refl

pub returns-clause-nothing : goal.returns-clause-nothing
unfolding everything
returns-clause-nothing c = refl
