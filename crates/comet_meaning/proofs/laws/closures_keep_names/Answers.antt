use Rattle.std.proofs.Common.{refl}
use Rattle.comet_meaning.proofs.Computing.{everything}
use Rattle.comet_meaning.proofs.laws.closures_keep_names.Goals as goal

pub returns-clause-handlers : goal.returns-clause-handlers
unfolding everything
returns-clause-handlers c = refl

pub returns-clause-moves : goal.returns-clause-moves
unfolding everything
returns-clause-moves c = refl
