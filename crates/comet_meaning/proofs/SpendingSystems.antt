-- Questions about systems and objectives change nothing.
use Rattle.std.proofs.Common.{refl, ℕ, ℤ, ◌&&◌, List, [], ◌∷◌, Result, Ok, Err}
use Rattle.std.specs.List.{list_all}
use Rattle.cbl_base.specs.declared.ids.VarId.{VarId}
use Rattle.cbl_base.specs.declared.place.Place.{Place}
use Rattle.cbl_base.specs.declared.faults.RunFault.TheVariants.{NotClosed, WrongSolver}
use Rattle.model_values.specs.declared.asked.AskStop.{AskStop}
use Rattle.model_values.specs.declared.asked.AskStop.TheVariants.{Run, Fault, NoMemory}
use Rattle.model_values.specs.declared.deltas.Move.{Move}
use Rattle.model_values.specs.declared.wholes.Whole.{Whole}
use Rattle.comet_meaning.specs.Values.{Value, Variable, System, Objective}
use Rattle.comet_meaning.specs.Solvers.{SolverState}
use Rattle.comet_meaning.specs.Outcome.{Act}
use Rattle.comet_meaning.specs.Parts.{solver_at}
use Rattle.comet_meaning.specs.Models.{owns}
use Rattle.comet_meaning.specs.Systems.{of_whole, has_whole, valuing, whole_value, give_asked, asking, violations_answer, variable_violations, violations, delta_answer, delta, assign_delta, swap_delta}
use Rattle.comet_meaning.specs.Spending.{OnlySpends}
use Rattle.comet_meaning.proofs.Spending.{spends_then, spends_give, spends_fault, spends_give_or_met, spends_unless, spends_at}

spends_of_whole : (f : ℕ → Whole → Act Value) (v : Value) → ((k : ℕ) (w : Whole) → OnlySpends (f k w)) → OnlySpends (of_whole f v)
spends_of_whole f (System k i) h = h k _
spends_of_whole f (Objective k i) h = h k _
spends_of_whole f v h = spends_give

spends_valuing : (at : Place) (w : Whole) (m : SolverState) → OnlySpends (valuing at w m)
unfolding valuing
spends_valuing at w m =
    spends_then (spends_unless m.closed at NotClosed) (λ _. spends_then (spends_unless (has_whole m w) at WrongSolver) (λ _. spends_then (spends_give_or_met _) (λ z. spends_give)))

spends_whole_value : (at : Place) (k : ℕ) (w : Whole) → OnlySpends (whole_value at k w)
unfolding whole_value
spends_whole_value at k w = spends_at {f = λ s. valuing at w (solver_at s k)} (λ o s. refl) (λ s. spends_valuing at w _)

pub spends_value_of : (at : Place) (v : Value) → OnlySpends (of_whole (whole_value at) v)
spends_value_of at v = spends_of_whole (whole_value at) v (spends_whole_value at)

spends_give_asked : (at : Place) (r : Result ℤ AskStop) → OnlySpends (give_asked at r)
spends_give_asked at (Ok z) = spends_give
spends_give_asked at (Err (Run f)) = spends_fault
spends_give_asked at (Err (Fault place f)) = spends_fault
spends_give_asked at (Err NoMemory) = spends_give

spends_asking : (at : Place) (k : ℕ) (w : Whole) (xs : List VarId) (answer : Result ℤ AskStop) (m : SolverState) → OnlySpends (asking at k w xs answer m)
unfolding asking
spends_asking at k w xs answer m =
    spends_then (spends_unless m.closed at NotClosed) (λ _. spends_then (spends_unless (has_whole m w && list_all (owns k m) xs) at WrongSolver) (λ _. spends_give_asked at answer))

spends_variable_violations : (at : Place) (x : VarId) (k : ℕ) (w : Whole) → OnlySpends (variable_violations at x k w)
unfolding variable_violations
spends_variable_violations at x k w =
    spends_at {f = λ s. asking at k w (x ∷ []) (violations_answer (solver_at s k) w x) (solver_at s k)} (λ o s. refl) (λ s. spends_asking at k w (x ∷ []) _ _)

pub spends_violations : (at : Place) (v : Value) (vs : List Value) → OnlySpends (violations at v vs)
spends_violations at v [] = spends_of_whole (whole_value at) v (spends_whole_value at)
spends_violations at v (Variable x ∷ []) = spends_of_whole (variable_violations at x) v (spends_variable_violations at x)
spends_violations at v vs = spends_give

spends_delta : (at : Place) (xs : List VarId) (move : Move) (k : ℕ) (w : Whole) → OnlySpends (delta at xs move k w)
unfolding delta
spends_delta at xs move k w =
    spends_at {f = λ s. asking at k w xs (delta_answer (solver_at s k) w move) (solver_at s k)} (λ o s. refl) (λ s. spends_asking at k w xs _ _)

pub spends_assign_delta : (at : Place) (v : Value) (vs : List Value) → OnlySpends (assign_delta at v vs)
spends_assign_delta at v (Variable x ∷ z ∷ []) = spends_of_whole (delta at (x ∷ []) _) v (spends_delta at (x ∷ []) _)
spends_assign_delta at v vs = spends_give

pub spends_swap_delta : (at : Place) (v : Value) (vs : List Value) → OnlySpends (swap_delta at v vs)
spends_swap_delta at v (Variable x ∷ Variable y ∷ []) = spends_of_whole (delta at (x ∷ y ∷ []) _) v (spends_delta at (x ∷ y ∷ []) _)
spends_swap_delta at v vs = spends_give
