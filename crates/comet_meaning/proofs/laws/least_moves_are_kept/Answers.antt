use Rattle.std.proofs.Common.{refl}
use Rattle.comet_meaning.proofs.Computing.{everything}
use Rattle.comet_meaning.proofs.laws.least_moves_are_kept.Goals as goal

pub returns-clause-best : goal.returns-clause-best
unfolding everything
returns-clause-best c = refl

pub returns-clause-first : goal.returns-clause-first
unfolding everything
returns-clause-first c = refl

pub returns-clause-none : goal.returns-clause-none
unfolding everything
returns-clause-none c = refl
