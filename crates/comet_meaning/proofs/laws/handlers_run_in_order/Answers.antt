use Rattle.std.proofs.Common.{refl}
use Rattle.comet_meaning.proofs.Computing.{everything}
use Rattle.comet_meaning.proofs.laws.handlers_run_in_order.Goals as goal

pub returns-clause-once : goal.returns-clause-once
unfolding everything
returns-clause-once c = refl

pub returns-clause-blocks : goal.returns-clause-blocks
unfolding everything
returns-clause-blocks c = refl

pub returns-clause-queue : goal.returns-clause-queue
unfolding everything
returns-clause-queue c = refl
