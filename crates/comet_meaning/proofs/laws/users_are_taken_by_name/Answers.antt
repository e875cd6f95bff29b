use Rattle.std.proofs.Common.{refl}
use Rattle.comet_meaning.proofs.Computing.{everything}
use Rattle.comet_meaning.proofs.laws.users_are_taken_by_name.Goals as goal

pub returns-clause-unknown : goal.returns-clause-unknown
unfolding everything
returns-clause-unknown c = refl

pub returns-clause-places : goal.returns-clause-places
unfolding everything
returns-clause-places c = refl

pub returns-clause-name : goal.returns-clause-name
unfolding everything
returns-clause-name c = refl

pub returns-clause-spent : goal.returns-clause-spent
unfolding everything
returns-clause-spent c = refl

pub returns-clause-twice : goal.returns-clause-twice
unfolding everything
returns-clause-twice c = λ at. refl

pub returns-clause-second : goal.returns-clause-second
unfolding everything
returns-clause-second c = refl
