use Rattle.std.proofs.Common.{refl}
use Rattle.comet_meaning.proofs.Computing.{everything}
use Rattle.comet_meaning.proofs.laws.candidates_cost_fuel.Goals as goal

pub returns-clause-enough : goal.returns-clause-enough
unfolding everything
returns-clause-enough c = refl

pub returns-clause-body : goal.returns-clause-body
unfolding everything
returns-clause-body c = refl

pub returns-clause-last : goal.returns-clause-last
unfolding everything
returns-clause-last c = refl

pub returns-clause-value : goal.returns-clause-value
unfolding everything
returns-clause-value c = refl
