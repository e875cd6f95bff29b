-- The new one is known by its number.
use Rattle.run_solvers.proofs.held.Held.new_system.Goals as goal

pub returns-in-Ok-clause-changes : goal.returns-in-Ok-clause-changes
returns-in-Ok-clause-changes g c = record { meant = c.in-Ok.ensures.changes.meant; kept = c.in-Ok.ensures.changes.kept; number = c.in-Ok.ensures.changes.number }

pub returns-in-Err-clause-changes : goal.returns-in-Err-clause-changes
returns-in-Err-clause-changes g c = record { meant = c.in-Err.ensures.changes.meant; kept = c.in-Err.ensures.changes.kept; number = c.in-Err.ensures.changes.number }
