use Rattle.std.proofs.Common.{refl}
use Rattle.comet_meaning.proofs.Computing.{everything}
use Rattle.comet_meaning.proofs.laws.systems_are_asked_when_closed.Goals as goal

pub returns-clause-early : goal.returns-clause-early
unfolding everything
returns-clause-early c = refl

pub returns-clause-late : goal.returns-clause-late
unfolding everything
returns-clause-late c = refl

pub returns-clause-another : goal.returns-clause-another
unfolding everything
returns-clause-another c = refl

pub returns-clause-nothing : goal.returns-clause-nothing
unfolding everything
returns-clause-nothing c = refl
