use Rattle.std.proofs.Common.{refl}
use Rattle.comet_meaning.proofs.Computing.{everything}
use Rattle.comet_meaning.proofs.laws.selectors_choose_by_key.Goals as goal

pub returns-clause-least : goal.returns-clause-least
unfolding everything
returns-clause-least c = refl

pub returns-clause-none : goal.returns-clause-none
unfolding everything
returns-clause-none c = refl
