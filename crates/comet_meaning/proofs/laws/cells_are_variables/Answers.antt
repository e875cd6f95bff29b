use Rattle.std.proofs.Common.{refl}
use Rattle.comet_meaning.proofs.Computing.{everything}
use Rattle.comet_meaning.proofs.laws.cells_are_variables.Goals as goal

pub returns-clause-enough : goal.returns-clause-enough
unfolding everything
returns-clause-enough c = refl

pub returns-clause-less : goal.returns-clause-less
unfolding everything
returns-clause-less c = refl
