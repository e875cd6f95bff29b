use Rattle.std.proofs.Common.{refl}
use Rattle.checked_tree.specs.Actions.{deed_of}
use Rattle.run_steps.proofs.leaves.returned.Goals as goal

pub returns-in-Return : goal.returns-in-Return
unfolding deed_of
returns-in-Return c = rw c.in-Return.is refl
