use Rattle.std.proofs.Common.{refl}
use Rattle.comet_meaning.proofs.Computing.{everything}
use Rattle.comet_meaning.proofs.laws.blocks_commit_at_their_end.Goals as goal

pub returns-clause-one : goal.returns-clause-one
unfolding everything
returns-clause-one c = refl

pub returns-clause-inner : goal.returns-clause-inner
unfolding everything
returns-clause-inner c = refl

pub returns-clause-early : goal.returns-clause-early
unfolding everything
returns-clause-early c = refl
