use Rattle.std.proofs.Common.{refl}
use Rattle.comet_meaning.proofs.Computing.{everything}
use Rattle.comet_meaning.proofs.laws.endless_call_meets_depth.Goals as goal

pub returns : goal.returns
unfolding everything
returns c = refl
