use Rattle.std.proofs.Common.{refl}
use Rattle.comet_meaning.proofs.Computing.{everything}
use Rattle.comet_meaning.proofs.laws.right_side_comes_first.Goals as goal

pub returns-clause-right : goal.returns-clause-right
unfolding everything
returns-clause-right c = refl

pub returns-clause-solver : goal.returns-clause-solver
unfolding everything
returns-clause-solver c = refl
