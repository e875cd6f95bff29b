use Rattle.std.proofs.Common.{refl}
use Rattle.comet_meaning.proofs.Computing.{everything}
use Rattle.comet_meaning.proofs.laws.solutions_are_restored.Goals as goal

pub returns-clause-restored : goal.returns-clause-restored
unfolding everything
returns-clause-restored c = refl

pub returns-clause-later : goal.returns-clause-later
unfolding everything
returns-clause-later c = refl

pub returns-clause-early : goal.returns-clause-early
unfolding everything
returns-clause-early c = refl
