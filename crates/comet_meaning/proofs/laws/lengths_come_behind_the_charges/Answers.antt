use Rattle.std.proofs.Common.{refl}
use Rattle.comet_meaning.proofs.Computing.{everything}
use Rattle.comet_meaning.proofs.laws.lengths_come_behind_the_charges.Goals as goal

pub returns-clause-enough : goal.returns-clause-enough
unfolding everything
returns-clause-enough c = refl

pub returns-clause-places : goal.returns-clause-places
unfolding everything
returns-clause-places c = refl

pub returns-clause-weights : goal.returns-clause-weights
unfolding everything
returns-clause-weights c = refl

pub returns-clause-name : goal.returns-clause-name
unfolding everything
returns-clause-name c = refl

pub returns-clause-window : goal.returns-clause-window
unfolding everything
returns-clause-window c = refl
