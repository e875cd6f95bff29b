-- Each act on a solver in a state is a change of that solver.
use Rattle.std.proofs.Common.{◌≡◌, refl, sym, ap, length, nat_eq, zip, ◌∙◌, ℕ, ℤ, Bool, true, false, not, ◌&&◌, ◌||◌, List, [], ◌∷◌, Option, Some, None, Result, Ok, Err, nat_lt, if◌then◌else◌}
use Rattle.cbl_base.specs.declared.ids.VarId.{VarId}
use Rattle.cbl_base.specs.declared.place.Place.{Place}
use Rattle.cbl_base.specs.declared.faults.Limit.TheVariants.{TermNodes, Variables}
use Rattle.cbl_base.specs.declared.faults.RunFault.{RunFault}
use Rattle.cbl_base.specs.declared.faults.RunFault.TheVariants.{AlreadyClosed, DefinedVariable, NotClosed, TooMany, WrongSolver}
use Rattle.term_model.specs.declared.model.VarDecl.{VarDecl}
use Rattle.term_model.specs.declared.term.Term.{Term}
use Rattle.model_values.specs.Fresh.{Fresh}
use Rattle.model_values.specs.declared.failure.Failure.{Failure}
use Rattle.model_view.specs.Variables.{all_variables}
use Rattle.comet_meaning.specs.Values.{Nothing}
use Rattle.comet_meaning.specs.State.{State}
use Rattle.comet_meaning.specs.Solvers.{SolverState, variable_count, is_defined, fresh_values, cycle_in}
use Rattle.comet_meaning.specs.Limits.{most_variables}
use Rattle.comet_meaning.specs.Outcome.{Act, then_do, ◌>>=◌, give, give_or_met, unless}
use Rattle.comet_meaning.specs.Parts.{solver_at}
use Rattle.comet_meaning.specs.Models.{put_solver, put_evaluated, closed_now, without_cycle, closing, close, moving, move, owns, assigning, assign, exchanged, swapping, swap, term_for, has_room, defined_by, defining, define}
use Rattle.comet_meaning.specs.Variables.{Beginning, free, defined, first_number, with_variable, next_variable, begin, adding, new_variable}
use Rattle.comet_meaning.specs.Blocks.{committed, commit_waiting}
use Rattle.comet_meaning.specs.Solutions.{free_variables, restoring}
use Rattle.run_solvers.specs.Solutions.{restored_one}
use Rattle.run_solvers.specs.Changing.{Made, refused, by_values, evaluated, by_cycle, closed_one, moved_one, assigned_one, swapped_one, defined_one, begun_one, added_one, committed_one, changed, changed_where}

-- a test before an act

pub tested : {A : Type 0} (b : Bool) (at : Place) (f : RunFault) (x : A) (k : ℕ) (act : Unit {0} → Act A) (made : Made) (s : State) → act tt s ≡ changed x k made s → (unless b at f >>= act) s ≡ changed x k (if b then made else refused at f) s
tested true at f x k act made s e = e
tested false at f x k act made s e = refl

pub tested_not : {A : Type 0} (b : Bool) (at : Place) (f : RunFault) (x : A) (k : ℕ) (act : Unit {0} → Act A) (made : Made) (s : State) → act tt s ≡ changed x k made s → (unless (not b) at f >>= act) s ≡ changed x k (if b then refused at f else made) s
tested_not true at f x k act made s e = refl
tested_not false at f x k act made s e = e

-- what follows a change gives something else
given : {A : Type 0} (x : A) (k : ℕ) (made : Made) (s : State) → (changed {A = Unit {0}} tt k made >>= λ _. give x) s ≡ changed x k made s
given x k (Ok m) s = refl
given x k (Err h) s = refl

pub then_given : {A : Type 0} (act : Act (Unit {0})) (x : A) (k : ℕ) (made : Made) (s : State) → act s ≡ changed {A = Unit {0}} tt k made s → (act >>= λ _. give x) s ≡ changed x k made s
then_given act x k made s e = ap (λ o. then_do o (λ _. give x)) e ∙ given x k made s

-- evaluating

values_are : (k : ℕ) (m : SolverState) (r : Result Fresh Failure) (s : State) → (give_or_met r >>= λ fresh. put_solver k m) s ≡ changed tt k (by_values m r) s
values_are k m (Ok fresh) s = refl
values_are k m (Err failure) s = refl

pub evaluates : (k : ℕ) (m : SolverState) (s : State) → put_evaluated k m s ≡ changed tt k (evaluated m) s
unfolding put_evaluated
evaluates k m s = by_test m.closed where
  by_test : (b : Bool) → (if b then (give_or_met (fresh_values m) >>= λ fresh. put_solver k m) else put_solver k m) s ≡ changed tt k (if b then by_values m (fresh_values m) else Ok m) s
  by_test true = values_are k m (fresh_values m) s
  by_test false = refl

-- closing

cycled : (at : Place) (k : ℕ) (m : SolverState) (xs : Option (List ℕ)) (s : State) → (without_cycle at m xs >>= λ _. put_evaluated k (closed_now m) >>= λ _. give Nothing) s ≡ changed Nothing k (by_cycle at m xs) s
cycled at k m None s = then_given (put_evaluated k (closed_now m)) Nothing k (evaluated (closed_now m)) s (evaluates k (closed_now m) s)
cycled at k m (Some xs) s = refl

pub closes : (at : Place) (k : ℕ) (s : State) → close at k s ≡ changed Nothing k (closed_one at (solver_at s k)) s
unfolding close closing
closes at k s = let m = solver_at s k in tested_not m.closed at AlreadyClosed Nothing k _ (by_cycle at m (cycle_in m)) s (cycled at k m (cycle_in m) s)

-- new numbers

moves_are : (k : ℕ) (moves : List (ℕ × ℤ)) (m : SolverState) (waiting : Option (List ℤ)) (s : State) → moving k moves m waiting s ≡ changed tt k (moved_one moves m waiting) s
moves_are k moves m None s = evaluates k _ s
moves_are k moves m (Some a) s = refl

pub moves : (k : ℕ) (moves : List (ℕ × ℤ)) (s : State) → move k moves s ≡ changed tt k (moved_one moves (solver_at s k) (solver_at s k).waiting) s
unfolding move
moves k ms s = moves_are k ms (solver_at s k) (solver_at s k).waiting s

pub assigns : (at : Place) (x : VarId) (z : ℤ) (s : State) → assign at x z s ≡ changed tt x.solver (assigned_one at x z (solver_at s x.solver)) s
unfolding assign assigning
assigns at x z s =
    let m = solver_at s x.solver in
    tested (owns x.solver m x) at WrongSolver tt x.solver _ _ s
    (tested_not (is_defined m x.index) at DefinedVariable tt x.solver _ _ s (moves x.solver ((x.index, z) ∷ []) s))

both_not : (b c : Bool) → (not b && not c) ≡ not (b || c)
both_not true c = refl
both_not false c = refl

pub swaps : (at : Place) (x y : VarId) (s : State) → swap at x y s ≡ changed tt x.solver (swapped_one at x y (solver_at s x.solver)) s
unfolding swap swapping
swaps at x y s =
    let m = solver_at s x.solver in
    tested (owns x.solver m x && owns x.solver m y) at WrongSolver tt x.solver _ _ s
    (ap (λ b. (unless b at DefinedVariable >>= λ _. move x.solver (exchanged m x.index y.index)) s) (both_not (is_defined m x.index) (is_defined m y.index))
    ∙ tested_not (is_defined m x.index || is_defined m y.index) at DefinedVariable tt x.solver _ _ s (moves x.solver (exchanged m x.index y.index) s))

-- `restore`

pub restores : (at : Place) (k : ℕ) (values : List ℤ) (m : SolverState) (s : State) → m ≡ solver_at s k → restoring at k values m s ≡ changed tt k (restored_one at values m) s
unfolding restoring
restores at k values m s is =
    tested m.closed at NotClosed tt k _ _ s
    (tested (nat_eq (length values) (length (free_variables m))) at WrongSolver tt k _ _ s
    (moves k (zip (free_variables m) values) s ∙ ap (λ (n : SolverState). changed tt k (moved_one (zip (free_variables m) values) n n.waiting) s) (sym is)))

-- the end of a `with`

committed_as : (k : ℕ) (m : SolverState) (waiting : Option (List ℤ)) (s : State) → committed k m waiting s ≡ changed_where k (committed_one m waiting) s
committed_as k m None s = refl
committed_as k m (Some a) s = changed_by (evaluates k _ s) where
  changed_by : put_evaluated k (record m { assignment = a; waiting = None }) s ≡ changed tt k (evaluated (record m { assignment = a; waiting = None })) s → put_evaluated k (record m { assignment = a; waiting = None }) s ≡ changed_where k (Some (evaluated (record m { assignment = a; waiting = None }))) s
  changed_by e = e

pub commits : (k : ℕ) (s : State) → commit_waiting k s ≡ changed_where k (committed_one (solver_at s k) (solver_at s k).waiting) s
unfolding commit_waiting
commits k s = committed_as k (solver_at s k) (solver_at s k).waiting s

-- definitions

pub defines_one : (at : Place) (x : VarId) (t : Term) (m : SolverState) (s : State) → defining at x t m s ≡ changed tt x.solver (defined_one at x t m) s
unfolding defining
defines_one at x t m s =
    tested_not m.closed at AlreadyClosed tt x.solver _ _ s
    (tested (owns x.solver m x && all_variables (owns x.solver m) t) at WrongSolver tt x.solver _ _ s
    (tested_not (is_defined m x.index) at DefinedVariable tt x.solver _ _ s
    (tested (has_room m (term_for m x.index t)) at (TooMany TermNodes) tt x.solver _ (Ok (defined_by m x t)) s refl)))

pub defines : (at : Place) (x : VarId) (t : Term) (s : State) → define at x t s ≡ changed tt x.solver (defined_one at x t (solver_at s x.solver)) s
unfolding define
defines at x t s = defines_one at x t (solver_at s x.solver) s

-- new variables

begins : (at : Place) (x : VarId) (b : Beginning) (m : SolverState) (s : State) → begin at x b m s ≡ changed tt x.solver (begun_one at x b m) s
begins at x (free z) m s = refl
begins at x (defined t) m s = defines_one at x t m s

pub adds : (at : Place) (k : ℕ) (d : VarDecl) (name : List ℕ) (b : Beginning) (s : State) → new_variable at k d name b s ≡ changed (next_variable k (solver_at s k)) k (added_one at k d name b (solver_at s k)) s
unfolding new_variable adding
adds at k d name b s =
    let m = solver_at s k in
    let next = next_variable k m in
    tested_not m.closed at AlreadyClosed next k _ _ s
    (tested (nat_lt (variable_count m) most_variables) at (TooMany Variables) next k _ _ s
    (then_given (begin at next b (with_variable m d name (first_number b))) next k (begun_one at next b (with_variable m d name (first_number b))) s (begins at next b (with_variable m d name (first_number b)) s)))
