use Rattle.std.proofs.Common.{refl}
use Rattle.comet_meaning.proofs.Computing.{everything}
use Rattle.comet_meaning.proofs.laws.arrays_are_shared_and_sets_copied.Goals as goal

pub returns : goal.returns
unfolding everything
returns c = refl
