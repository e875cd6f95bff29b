-- `with`: what is assigned in the block waits, reads see the values that the variables had at its start, and the end of
-- the outermost block on a solver commits all at once, for each variable the last number, and handlers run behind that. From
-- the language.
use Rattle.std.specs.Prelude.{ℕ, ℤ, List, Option, Some, None, is_some, if◌then◌else◌}
use Rattle.cbl_base.specs.declared.place.Place.{Place}
use Rattle.cbl_base.specs.declared.faults.RunFault.TheVariants.{NotClosed}
use Rattle.checked_tree.specs.declared.expressions.Slot.{Slot}
use Rattle.checked_tree.specs.Tasks.{Work}
use Rattle.comet_meaning.specs.Values.{solver_of}
use Rattle.comet_meaning.specs.Solvers.{SolverState}
use Rattle.comet_meaning.specs.Outcome.{Act, ◌>>=◌, give, unless}
use Rattle.comet_meaning.specs.Cells.{look}
use Rattle.comet_meaning.specs.Levels.{Level, Flow}
use Rattle.comet_meaning.specs.Parts.{solver_at}
use Rattle.comet_meaning.specs.Models.{put_solver, put_evaluated}
use Rattle.comet_meaning.specs.Changes.{noticed}
use Rattle.comet_meaning.specs.Events.{run_queue}

-- what waited is committed

abbrev pub committed : ℕ → SolverState → Option (List ℤ) → Act (Unit {0})
committed k m None = give tt
committed k m (Some a) = put_evaluated k (record m { assignment = a; waiting = None })

unfoldable pub commit_waiting : ℕ → Act (Unit {0})
commit_waiting k = λ s. committed k (solver_at s k) (solver_at s k).waiting s

-- the outermost block on a solver
unfoldable pub outermost : Level → Place → ℕ → Work → SolverState → Act Flow
outermost l at k body m = do
  _ ← put_solver k (record m { waiting = Some m.assignment })
  flow ← l.stmt body
  _ ← noticed k (commit_waiting k)
  _ ← run_queue l at
  give flow

-- a block inside another one on the same solver is a part of it
unfoldable pub within_solver : Level → Place → ℕ → Work → SolverState → Act Flow
within_solver l at k body m = do
  _ ← unless m.closed at NotClosed
  if is_some m.waiting then l.stmt body else outermost l at k body m

abbrev pub together_in : Level → Place → ℕ → Work → Act Flow
together_in l at k body = λ s. within_solver l at k body (solver_at s k) s

unfoldable pub together_form : Level → Place → Slot → Work → Act Flow
together_form l at slot body = look slot >>= λ v. together_in l at (solver_of v) body
