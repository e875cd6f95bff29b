-- The state is the first one, and there are no solvers.
use Rattle.run_standing.proofs.standing.Standing.new.Goals as goal

pub returns : goal.returns
returns g c = rw c.new-2.ensures (c.new.ensures c.args.users.items)
