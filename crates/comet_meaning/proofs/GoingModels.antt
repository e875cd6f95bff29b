-- What is asked of solvers goes onward.
use Rattle.std.proofs.Common.{ℕ, ℤ, not, ◌&&◌, List, [], ◌∷◌, Option, Some, None, slice_get}
use Rattle.cbl_base.specs.declared.faults.Limit.TheVariants.{TermNodes}
use Rattle.cbl_base.specs.declared.faults.RunFault.TheVariants.{AlreadyClosed, DefinedVariable, TooMany, WrongSolver}
use Rattle.model_view.specs.Variables.{all_variables}
use Rattle.cbl_base.specs.declared.ids.VarId.{VarId}
use Rattle.cbl_base.specs.declared.place.Place.{Place}
use Rattle.term_model.specs.declared.term.Term.{Term}
use Rattle.comet_meaning.specs.Values.{Value, Nothing, Range, Variable}
use Rattle.comet_meaning.specs.Solvers.{SolverState, is_defined, cycle_in}
use Rattle.comet_meaning.specs.State.{left}
use Rattle.comet_meaning.specs.Models.{put_solver, put_evaluated, closed_now, owns, exchanged, term_for, defined_by, has_room, domain_in, without_cycle, closing, close, moving, move, assigning, assign, swapping, swap, defining, define, domain_at, domain_of}
use Rattle.comet_meaning.specs.Onward.{GoesOn}
use Rattle.comet_meaning.proofs.GoingOn.{onward_refl, goes_then, goes_give, goes_if, goes_give_or_met, goes_unless, goes_at}

pub goes_put_solver : (k : ℕ) (m : SolverState) → GoesOn (put_solver k m)
goes_put_solver k m = record { from = λ s. onward_refl (left s) }

pub goes_put_evaluated : (k : ℕ) (m : SolverState) → GoesOn (put_evaluated k m)
unfolding put_evaluated
goes_put_evaluated k m = goes_if _ (goes_then (goes_give_or_met _) (λ fresh. goes_put_solver k m)) (goes_put_solver k m)

goes_without_cycle : (at : Place) (m : SolverState) (xs : Option (List ℕ)) → GoesOn (without_cycle at m xs)
goes_without_cycle at m None = goes_give
goes_without_cycle at m (Some xs) = record { from = λ s. onward_refl (left s) }

goes_closing : (at : Place) (k : ℕ) (m : SolverState) → GoesOn (closing at k m)
unfolding closing
goes_closing at k m =
    goes_then (goes_unless (not m.closed) at AlreadyClosed) (λ _. goes_then (goes_without_cycle at m (cycle_in m)) (λ _. goes_then (goes_put_evaluated k (closed_now m)) (λ _. goes_give {x = Nothing})))

pub goes_close : (at : Place) (k : ℕ) → GoesOn (close at k)
unfolding close
goes_close at k = goes_at (λ s. goes_closing at k _)

goes_moving : (k : ℕ) (moves : List (ℕ × ℤ)) (m : SolverState) (waiting : Option (List ℤ)) → GoesOn (moving k moves m waiting)
goes_moving k moves m None = goes_put_evaluated k _
goes_moving k moves m (Some a) = goes_put_solver k _

pub goes_move : (k : ℕ) (moves : List (ℕ × ℤ)) → GoesOn (move k moves)
unfolding move
goes_move k moves = goes_at (λ s. goes_moving k moves _ _)

goes_assigning : (at : Place) (x : VarId) (z : ℤ) (m : SolverState) → GoesOn (assigning at x z m)
unfolding assigning
goes_assigning at x z m =
    goes_then (goes_unless (owns x.solver m x) at WrongSolver) (λ _. goes_then (goes_unless (not (is_defined m x.index)) at DefinedVariable) (λ _. goes_move x.solver ((x.index, z) ∷ [])))

pub goes_assign : (at : Place) (x : VarId) (z : ℤ) → GoesOn (assign at x z)
unfolding assign
goes_assign at x z = goes_at (λ s. goes_assigning at x z _)

goes_swapping : (at : Place) (x y : VarId) (m : SolverState) → GoesOn (swapping at x y m)
unfolding swapping
goes_swapping at x y m =
    goes_then (goes_unless (owns x.solver m x && owns x.solver m y) at WrongSolver) (λ _.
    goes_then (goes_unless (not (is_defined m x.index) && not (is_defined m y.index)) at DefinedVariable) (λ _. goes_move x.solver (exchanged m x.index y.index)))

pub goes_swap : (at : Place) (x y : VarId) → GoesOn (swap at x y)
unfolding swap
goes_swap at x y = goes_at (λ s. goes_swapping at x y _)

pub goes_defining : (at : Place) (x : VarId) (t : Term) (m : SolverState) → GoesOn (defining at x t m)
unfolding defining
goes_defining at x t m =
    goes_then (goes_unless (not m.closed) at AlreadyClosed) (λ _.
    goes_then (goes_unless (owns x.solver m x && all_variables (owns x.solver m) t) at WrongSolver) (λ _.
    goes_then (goes_unless (not (is_defined m x.index)) at DefinedVariable) (λ _.
    goes_then (goes_unless (has_room m (term_for m x.index t)) at (TooMany TermNodes)) (λ _. goes_put_solver x.solver (defined_by m x t)))))

pub goes_define : (at : Place) (x : VarId) (t : Term) → GoesOn (define at x t)
unfolding define
goes_define at x t = goes_at (λ s. goes_defining at x t _)

goes_domain_at : (at : Place) (x : VarId) (m : SolverState) → GoesOn (domain_at at x m)
unfolding domain_at
goes_domain_at at x m =
    goes_then (goes_unless (owns x.solver m x) at WrongSolver) (λ _. goes_give {x = Range (domain_in (slice_get m.model.vars.items x.index))})

pub goes_domain_of : (at : Place) (v : Value) → GoesOn (domain_of at v)
unfolding domain_of
goes_domain_of at (Variable x) = goes_at (λ s. goes_domain_at at x _)
goes_domain_of at v = goes_give
