-- A `with` is its beginning, and then its body with what follows it.
use Rattle.std.proofs.Common.{◌≡◌, ℕ, Bool, true, false, Some, refl}
use Rattle.std.specs.Prelude.{is_some, slice_set, if◌then◌else◌}
use Rattle.cbl_base.specs.declared.place.Place.{Place}
use Rattle.cbl_base.specs.declared.faults.RunFault.TheVariants.{NotClosed}
use Rattle.checked_tree.specs.Tasks.{Work}
use Rattle.comet_meaning.specs.Blocks.{commit_waiting, outermost, within_solver, together_in}
use Rattle.comet_meaning.specs.Changes.{noticed}
use Rattle.comet_meaning.specs.Events.{run_queue}
use Rattle.comet_meaning.specs.Levels.{Level, Flow}
use Rattle.comet_meaning.specs.Models.{put_solver}
use Rattle.comet_meaning.specs.Outcome.{Act, Outcome, Went, Halted, then_do, ◌>>=◌, give, unless}
use Rattle.comet_meaning.specs.Parts.{solver_at}
use Rattle.comet_meaning.specs.Solvers.{SolverState}
use Rattle.comet_meaning.specs.State.{State}
use Rattle.run_objects.specs.WithBlocks.{block}
use Rattle.run_state.specs.OfRunSolvers.Opening.{opened}

-- what follows the body, one after the other
grouped : (m : Act (Unit {0})) (n : Act (Unit {0})) (o : Outcome Flow) →
    then_do o (λ flow. m >>= λ _. n >>= λ _. give flow) ≡ then_do (then_do o (λ flow. m >>= λ _. give flow)) (λ flow. n >>= λ _. give flow)
grouped m n (Halted h t) = refl
grouped m n (Went flow t) = by (m t) where
  by : (o : Outcome (Unit {0})) → then_do o (λ _. n >>= λ _. give flow) ≡ then_do (then_do o (λ _. give flow)) (λ flow. n >>= λ _. give flow)
  by (Went x u) = refl
  by (Halted h u) = refl

pub together_law : (l : Level) (at : Place) (k : ℕ) (body : Work) (s : State) → together_in l at k body s ≡ (opened at k >>= block l at k body) s
unfolding within_solver outermost
together_law l at k body s = by (solver_at s k).closed (is_some (solver_at s k).waiting) where
  m : SolverState
  m = solver_at s k

  put : Act (Unit {0})
  put = put_solver k (record m { waiting = Some m.assignment })

  rest : Act Flow
  rest = l.stmt body >>= λ flow. noticed k (commit_waiting k) >>= λ _. run_queue l at >>= λ _. give flow

  by : (closed inner : Bool) →
      (unless closed at NotClosed >>= λ _. if inner then l.stmt body else (put >>= λ _. rest)) s
      ≡ ((unless closed at NotClosed >>= λ _. if inner then give false else (put >>= λ _. give true)) >>= block l at k body) s
  by true true = refl
  by true false = grouped (noticed k (commit_waiting k)) (run_queue l at) (l.stmt body (record s { solvers = slice_set s.solvers k (record m { waiting = Some m.assignment }) }))
  by false true = refl
  by false false = refl
