use Rattle.std.proofs.Common.{refl}
use Rattle.comet_meaning.proofs.Computing.{everything}
use Rattle.comet_meaning.proofs.laws.new_handlers_wait.Goals as goal

pub returns : goal.returns
unfolding everything
returns c = refl
