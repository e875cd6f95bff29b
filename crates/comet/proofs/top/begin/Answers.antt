-- The state is that of the start of a run.
use Rattle.comet.specs.Output.{start_with}
use Rattle.comet.proofs.top.begin.Goals as goal

pub returns : goal.returns
unfolding start_with
returns g c = c.new.ensures
