use Rattle.std.proofs.Common.{refl}
use Rattle.comet_meaning.proofs.Computing.{everything}
use Rattle.comet_meaning.proofs.laws.division_goes_toward_zero.Goals as goal

pub returns : goal.returns
unfolding everything
returns c = refl
