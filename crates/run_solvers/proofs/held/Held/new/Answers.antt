-- A new solver is the one that the meaning of programs begins with.
use Rattle.run_solvers.proofs.NewLaws.{new_kept, new_seen}
use Rattle.run_solvers.proofs.held.Held.new.Goals as goal

pub returns-clause-seen : goal.returns-clause-seen
returns-clause-seen g c = rw c.new-2.ensures (new_seen c.args.number c.new.result c.new.ensures)

pub returns-clause-kept : goal.returns-clause-kept
returns-clause-kept g c = rw c.new-2.ensures (new_kept c.args.number c.new.result c.new.ensures)
