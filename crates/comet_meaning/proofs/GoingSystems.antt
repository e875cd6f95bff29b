-- What is asked of systems and objectives goes onward.
use Rattle.std.proofs.Common.{ℕ, ℤ, pos, Bool, true, false, not, ◌&&◌, List, [], ◌∷◌, length, int_le, Option, Some, None, Result, Ok, Err}
use Rattle.std.specs.List.{list_all}
use Rattle.cbl_base.specs.declared.ids.VarId.{VarId}
use Rattle.cbl_base.specs.declared.place.Place.{Place}
use Rattle.cbl_base.specs.declared.faults.RunFault.TheVariants.{AlreadyClosed, NotClosed, OutOfRange, WrongSolver}
use Rattle.term_model.specs.declared.term.Term.{Term}
use Rattle.posted_users.specs.KeptRule.{KeptRule}
use Rattle.model_values.specs.declared.asked.AskStop.{AskStop}
use Rattle.model_values.specs.declared.asked.AskStop.TheVariants.{Run, Fault, NoMemory}
use Rattle.model_values.specs.declared.deltas.Move.{Move}
use Rattle.model_values.specs.declared.wholes.Whole.{Whole}
use Rattle.comet_meaning.specs.Values.{Value, Nothing, Variable, System, Objective}
use Rattle.comet_meaning.specs.Solvers.{SolverState}
use Rattle.comet_meaning.specs.Outcome.{Act}
use Rattle.comet_meaning.specs.Members.{with_system, with_objective}
use Rattle.comet_meaning.specs.Models.{owns}
use Rattle.comet_meaning.specs.Systems.{of_whole, has_whole, adding_system, make_system, adding_sum, make_sum, posting, post_to, post, posting_user, post_user_to, post_user, adding_objective, objective_by, make_objective, first_variable, valuing, whole_value, give_asked, asking, variable_violations, violations, delta, assign_delta, swap_delta}
use Rattle.comet_meaning.specs.State.{left}
use Rattle.comet_meaning.specs.TakingUsers.{taking_user, take_user}
use Rattle.comet_meaning.specs.Onward.{GoesOn}
use Rattle.comet_meaning.proofs.GoingOn.{onward_refl, goes_then, goes_give, goes_fault, goes_give_or_met, goes_unless, goes_at}
use Rattle.comet_meaning.proofs.GoingModels.{goes_put_solver}

goes_of_whole : (f : ℕ → Whole → Act Value) (v : Value) → ((k : ℕ) (w : Whole) → GoesOn (f k w)) → GoesOn (of_whole f v)
goes_of_whole f (System k i) h = h k _
goes_of_whole f (Objective k i) h = h k _
goes_of_whole f v h = goes_give

goes_adding_system : (at : Place) (k : ℕ) (m : SolverState) → GoesOn (adding_system at k m)
unfolding adding_system
goes_adding_system at k m =
    goes_then (goes_unless (not m.closed) at AlreadyClosed) (λ _.
    goes_then (goes_put_solver k (record m { model = with_system m.model at })) (λ _. goes_give {x = System k (length m.model.systems.items)}))

pub goes_make_system : (at : Place) (k : ℕ) → GoesOn (make_system at k)
unfolding make_system
goes_make_system at k = goes_at (λ s. goes_adding_system at k _)

goes_adding_sum : (at : Place) (k : ℕ) (m : SolverState) → GoesOn (adding_sum at k m)
unfolding adding_sum
goes_adding_sum at k m =
    goes_then (goes_unless (not m.closed) at AlreadyClosed) (λ _.
    goes_then (goes_put_solver k (record m { model = with_objective m.model at })) (λ _. goes_give {x = Objective k (length m.model.objectives.items)}))

pub goes_make_sum : (at : Place) (k : ℕ) → GoesOn (make_sum at k)
unfolding make_sum
goes_make_sum at k = goes_at (λ s. goes_adding_sum at k _)

goes_posting : (at : Place) (k : ℕ) (w : Whole) (t : Term) (weight : ℤ) (m : SolverState) → GoesOn (posting at k w t weight m)
unfolding posting
goes_posting at k w t weight m =
    goes_then (goes_unless (not m.closed) at AlreadyClosed) (λ _.
    goes_then (goes_unless _ at WrongSolver) (λ _.
    goes_then (goes_unless (int_le (pos 0) weight) at OutOfRange) (λ _.
    goes_then (goes_unless _ at _) (λ _. goes_put_solver k _))))

goes_post_to : (at : Place) (t : Term) (weight : ℤ) (k : ℕ) (w : Whole) → GoesOn (post_to at t weight k w)
unfolding post_to
goes_post_to at t weight k w = goes_at (λ s. goes_then (goes_posting at k w t weight _) (λ _. goes_give {x = Nothing}))

pub goes_post : (at : Place) (t : Term) (weight : ℤ) (v : Value) → GoesOn (post at t weight v)
goes_post at t weight v = goes_of_whole (post_to at t weight) v (goes_post_to at t weight)

goes_posting_user : (at : Place) (k : ℕ) (w : Whole) (rule : KeptRule) (ts : List Term) (weight : ℤ) (m : SolverState) → GoesOn (posting_user at k w rule ts weight m)
unfolding posting_user
goes_posting_user at k w rule ts weight m = goes_posting at k w _ weight _

goes_post_user_to : (at : Place) (rule : KeptRule) (ts : List Term) (weight : ℤ) (k : ℕ) (w : Whole) → GoesOn (post_user_to at rule ts weight k w)
unfolding post_user_to
goes_post_user_to at rule ts weight k w = goes_at (λ s. goes_then (goes_posting_user at k w rule ts weight _) (λ _. goes_give {x = Nothing}))

pub goes_post_user : (at : Place) (rule : KeptRule) (ts : List Term) (weight : ℤ) (v : Value) → GoesOn (post_user at rule ts weight v)
goes_post_user at rule ts weight v = goes_of_whole (post_user_to at rule ts weight) v (goes_post_user_to at rule ts weight)

goes_taking_user : (at : Place) (known : Bool) (n : Option ℕ) → GoesOn (taking_user at known n)
goes_taking_user at known (Some n) = record { from = λ s. onward_refl (left s) }
goes_taking_user at true None = goes_fault
goes_taking_user at false None = goes_fault

pub goes_take_user : (at : Place) (name : List ℕ) → GoesOn (take_user at name)
unfolding take_user
goes_take_user at name = goes_at (λ s. goes_taking_user at _ _)

goes_adding_objective : (at : Place) (k : ℕ) (t : Term) (m : SolverState) → GoesOn (adding_objective at k t m)
unfolding adding_objective
goes_adding_objective at k t m =
    goes_then (goes_unless (not m.closed) at AlreadyClosed) (λ _. goes_then (goes_posting at k _ t (pos 1) _) (λ _. goes_give))

goes_objective_by : (at : Place) (t : Term) (x : Option VarId) → GoesOn (objective_by at t x)
goes_objective_by at t None = goes_fault
goes_objective_by at t (Some x) = goes_at (λ s. goes_adding_objective at x.solver t _)

pub goes_make_objective : (at : Place) (t : Term) → GoesOn (make_objective at t)
unfolding make_objective
goes_make_objective at t = goes_objective_by at t (first_variable t)

goes_valuing : (at : Place) (w : Whole) (m : SolverState) → GoesOn (valuing at w m)
unfolding valuing
goes_valuing at w m =
    goes_then (goes_unless m.closed at NotClosed) (λ _. goes_then (goes_unless (has_whole m w) at WrongSolver) (λ _. goes_then (goes_give_or_met _) (λ z. goes_give)))

goes_whole_value : (at : Place) (k : ℕ) (w : Whole) → GoesOn (whole_value at k w)
unfolding whole_value
goes_whole_value at k w = goes_at (λ s. goes_valuing at w _)

pub goes_value_of : (at : Place) (v : Value) → GoesOn (of_whole (whole_value at) v)
goes_value_of at v = goes_of_whole (whole_value at) v (goes_whole_value at)

goes_give_asked : (at : Place) (r : Result ℤ AskStop) → GoesOn (give_asked at r)
goes_give_asked at (Ok z) = goes_give
goes_give_asked at (Err (Run f)) = goes_fault
goes_give_asked at (Err (Fault place f)) = goes_fault
goes_give_asked at (Err NoMemory) = goes_give

goes_asking : (at : Place) (k : ℕ) (w : Whole) (xs : List VarId) (answer : Result ℤ AskStop) (m : SolverState) → GoesOn (asking at k w xs answer m)
unfolding asking
goes_asking at k w xs answer m =
    goes_then (goes_unless m.closed at NotClosed) (λ _. goes_then (goes_unless (has_whole m w && list_all (owns k m) xs) at WrongSolver) (λ _. goes_give_asked at answer))

goes_variable_violations : (at : Place) (x : VarId) (k : ℕ) (w : Whole) → GoesOn (variable_violations at x k w)
unfolding variable_violations
goes_variable_violations at x k w = goes_at (λ s. goes_asking at k w (x ∷ []) _ _)

pub goes_violations : (at : Place) (v : Value) (vs : List Value) → GoesOn (violations at v vs)
goes_violations at v [] = goes_of_whole (whole_value at) v (goes_whole_value at)
goes_violations at v (Variable x ∷ []) = goes_of_whole (variable_violations at x) v (goes_variable_violations at x)
goes_violations at v vs = goes_give

goes_delta : (at : Place) (xs : List VarId) (move : Move) (k : ℕ) (w : Whole) → GoesOn (delta at xs move k w)
unfolding delta
goes_delta at xs move k w = goes_at (λ s. goes_asking at k w xs _ _)

pub goes_assign_delta : (at : Place) (v : Value) (vs : List Value) → GoesOn (assign_delta at v vs)
goes_assign_delta at v (Variable x ∷ z ∷ []) = goes_of_whole (delta at (x ∷ []) _) v (goes_delta at (x ∷ []) _)
goes_assign_delta at v vs = goes_give

pub goes_swap_delta : (at : Place) (v : Value) (vs : List Value) → GoesOn (swap_delta at v vs)
goes_swap_delta at v (Variable x ∷ Variable y ∷ []) = goes_of_whole (delta at (x ∷ y ∷ []) _) v (goes_delta at (x ∷ y ∷ []) _)
goes_swap_delta at v vs = goes_give
