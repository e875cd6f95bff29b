-- Draws, selectors, moves and solutions go onward.
use Rattle.std.proofs.Common.{ℕ, suc, ℤ, List, [], ◌∷◌, length, Option, Some, None, is_some, nat_eq, slice_get}
use Rattle.cbl_base.specs.declared.place.Place.{Place}
use Rattle.cbl_base.specs.declared.faults.RunFault.TheVariants.{NoMove}
use Rattle.comet_syntax.specs.declared.tree.expressions.Extreme.{Extreme}
use Rattle.checked_tree.specs.declared.expressions.Slot.{Slot}
use Rattle.checked_tree.specs.Shape as shapes
use Rattle.checked_tree.specs.Shape.{Shape, Seen, whole}
use Rattle.checked_tree.specs.Tasks.{Work}
use Rattle.comet_meaning.specs.Values as values
use Rattle.comet_meaning.specs.Values.{Value, Bounds}
use Rattle.comet_meaning.specs.Solvers.{SolverState}
use Rattle.comet_meaning.specs.Search.{Closure, KeptMove, Snapshot}
use Rattle.comet_meaning.specs.State.{left}
use Rattle.comet_meaning.specs.Outcome.{always}
use Rattle.comet_meaning.specs.Levels.{Level}
use Rattle.comet_meaning.specs.Parts.{solver_at}
use Rattle.comet_meaning.specs.Draws.{next_word, below, drawn_of, draw}
use Rattle.comet_meaning.specs.Candidates.{Candidate, named, in_front, last_of, values_now, with_candidate, last_form, candidates_form}
use Rattle.comet_meaning.specs.Selection.{Rated, key_form, rated_form, scanned, scan_form, ties_of, chosen_of, choice_form, with_chosen, select_form, select_by_form}
use Rattle.comet_meaning.specs.Moves.{make_selector, kept_in, is_better, submitted_to, neighbor_form, has_move, get_move, run_move, called_move, choose_form}
use Rattle.comet_meaning.specs.Solutions.{free_variables, keeping, make_solution, restoring, restore_in, restored, restore}
use Rattle.comet_meaning.specs.Onward.{GoesOn}
use Rattle.comet_meaning.proofs.GoingOn.{onward_refl, goes_then, goes_give, goes_if, goes_unless, goes_at, goes_look, goes_in_scope, goes_each_in}
use Rattle.comet_meaning.proofs.GoingParts.{LevelGoesOn, goes_value, goes_number, goes_condition, goes_bind, goes_generated, goes_each_tuple}
use Rattle.comet_meaning.proofs.GoingModels.{goes_move}
use Rattle.comet_meaning.proofs.GoingEvents.{goes_noticed, goes_closed_over, goes_run_closure}

-- draws

pub goes_next_word : GoesOn next_word
unfolding next_word
goes_next_word = record { from = λ s. onward_refl (left s) }

pub goes_below : (n : ℕ) → GoesOn (below n)
unfolding below
goes_below n = goes_then goes_next_word (λ w. goes_give)

goes_drawn_of : (at : Place) (b : Bounds) → GoesOn (drawn_of at b)
goes_drawn_of at b = goes_then (goes_unless _ at _) (λ _. goes_then (goes_below _) (λ k. goes_give))

pub goes_draw : (at : Place) (v : Value) → GoesOn (draw at v)
unfolding draw
goes_draw at (values.Distribution b) = goes_drawn_of at b
goes_draw at v = goes_give

-- candidates

pub goes_values_now : (gs : List Shape) → GoesOn (values_now gs)
unfolding values_now
goes_values_now gs = record { from = λ s. onward_refl (left s) }

pub goes_with_candidate : (at : Place) (c : Candidate) (cs : List Candidate) → GoesOn (with_candidate at c cs)
goes_with_candidate at c cs = goes_then (goes_unless _ at _) (λ _. goes_give)

pub goes_last : (l : Level) → LevelGoesOn l → (at : Place) (front : List Shape) (g : Shape) (cs : List Candidate) → GoesOn (last_form l at front g cs)
unfolding last_form
goes_last l h at front (shapes.generator place slot domain) cs =
    goes_then (goes_value l h domain) (λ d. goes_then (goes_values_now front) (λ known. goes_each_in always _ d cs (λ v ds. goes_with_candidate at _ ds)))
goes_last l h at front g cs = goes_give

pub goes_candidates : (l : Level) → LevelGoesOn l → (at : Place) (gs : List Shape) → GoesOn (candidates_form l at gs)
unfolding candidates_form
goes_candidates l h at [] = goes_give
goes_candidates l h at (g ∷ []) = goes_last l h at [] g []
goes_candidates l h at (g ∷ i ∷ gs) =
    goes_each_tuple l h _ always _ [] (in_front (g ∷ i ∷ gs)) [] (λ v cs. goes_last l h at (in_front (g ∷ i ∷ gs)) (last_of i gs) cs)

-- selectors

pub goes_key : (l : Level) → LevelGoesOn l → (e : Shape) → GoesOn (key_form l e)
unfolding key_form
goes_key l h shapes.left_out = goes_give
goes_key l h e = goes_number l h e

pub goes_rated : (l : Level) → LevelGoesOn l → (c key : Shape) (n : ℕ) (xs : List Rated) → GoesOn (rated_form l c key n xs)
unfolding rated_form
goes_rated l h c key n xs = goes_then (goes_condition l h c) (λ t. goes_if t (goes_then (goes_key l h key) (λ k. goes_give)) goes_give)

pub goes_scanned : (l : Level) → LevelGoesOn l → (at : Place) (gs : List Shape) (c key : Shape) (n : ℕ) (ts : List Candidate) (xs : List Rated) → GoesOn (scanned l at gs c key n ts xs)
unfolding scanned
goes_scanned l h at gs c key n [] xs = goes_give
goes_scanned l h at gs c key n (t ∷ ts) xs =
    goes_then (goes_generated at (named gs t) (goes_rated l h c key n xs)) (λ ys. goes_scanned l h at gs c key (suc n) ts ys)

pub goes_scan : (l : Level) → LevelGoesOn l → (at : Place) (gs : List Shape) (c key : Shape) → GoesOn (scan_form l at gs c key)
unfolding scan_form
goes_scan l h at gs c key = goes_in_scope (goes_then (goes_candidates l h at gs) (λ ts. goes_then (goes_scanned l h at gs c key 0 ts []) (λ xs. goes_give)))

pub goes_chosen : (ns : List ℕ) → GoesOn (chosen_of ns)
unfolding chosen_of
goes_chosen [] = goes_give
goes_chosen (n ∷ []) = goes_give
goes_chosen (n ∷ m ∷ ns) = goes_then (goes_below _) (λ k. goes_give)

pub goes_choice : (l : Level) → LevelGoesOn l → (at : Place) (x : Option Extreme) (gs : List Shape) (c key : Shape) → GoesOn (choice_form l at x gs c key)
unfolding choice_form
goes_choice l h at x gs c key = goes_then (goes_scan l h at gs c key) (λ scan. goes_then (goes_chosen (ties_of x scan.kept)) (λ n. goes_give))

goes_with_chosen : (l : Level) → LevelGoesOn l → (gs : List Shape) (body : Work) (t : Option Candidate) → GoesOn (with_chosen l gs body t)
goes_with_chosen l h gs body None = goes_give
goes_with_chosen l h gs body (Some t) = goes_then (goes_bind (named gs t)) (λ _. h.stmt body)

pub goes_select : (l : Level) → LevelGoesOn l → (at : Place) (gs : List Shape) (c : Option Seen) (body : Work) → GoesOn (select_form l at gs c body)
unfolding select_form
goes_select l h at gs c body = goes_then (goes_choice l h at None gs _ _) (λ t. goes_with_chosen l h gs body t)

pub goes_select_by : (l : Level) → LevelGoesOn l → (at : Place) (x : Extreme) (gs : List Shape) (c : Option Seen) (key : Seen) (body : Work) → GoesOn (select_by_form l at x gs c key body)
unfolding select_by_form
goes_select_by l h at x gs c key body = goes_then (goes_choice l h at (Some x) gs _ (whole key)) (λ t. goes_with_chosen l h gs body t)

-- moves

pub goes_make_selector : GoesOn make_selector
unfolding make_selector
goes_make_selector = record { from = λ s. onward_refl (left s) }

goes_submitted_to : (z : ℤ) (v : Value) (c : Option Closure) → GoesOn (submitted_to z v c)
goes_submitted_to z (values.Selector n) (Some c) = goes_at (λ s. goes_if (is_better z (kept_in s n)) (record { from = λ t. onward_refl (left t) }) goes_give)
goes_submitted_to z v c = goes_give

pub goes_neighbor : (l : Level) → LevelGoesOn l → (e : Seen) (slot : Slot) (body : Work) → GoesOn (neighbor_form l e slot body)
unfolding neighbor_form
goes_neighbor l h e slot body =
    goes_then (goes_number l h (whole e)) (λ z. goes_then (goes_look slot) (λ v. goes_then (goes_closed_over body) (λ c. goes_then (goes_submitted_to z v c) (λ _. goes_give))))

pub goes_has_move : (v : Value) → GoesOn (has_move v)
unfolding has_move
goes_has_move (values.Selector n) = record { from = λ s. onward_refl (left s) }
goes_has_move v = goes_give

pub goes_get_move : (at : Place) (v : Value) → GoesOn (get_move at v)
unfolding get_move
goes_get_move at (values.Selector n) = goes_at (λ s. goes_then (goes_unless (is_some (kept_in s n)) at NoMove) (λ _. goes_give {x = values.Move n}))
goes_get_move at v = goes_give

goes_run_move : (l : Level) → LevelGoesOn l → (m : Option KeptMove) → GoesOn (run_move l m)
goes_run_move l h None = goes_give
goes_run_move l h (Some m) = goes_run_closure l h m.closure goes_give

goes_called_move : (l : Level) → LevelGoesOn l → (v : Value) → GoesOn (called_move l v)
unfolding called_move
goes_called_move l h (values.Move n) = goes_at (λ s. goes_run_move l h (kept_in s n))
goes_called_move l h v = goes_give

pub goes_choose : (l : Level) → LevelGoesOn l → (e : Seen) → GoesOn (choose_form l e)
unfolding choose_form
goes_choose l h e = goes_then (goes_value l h (whole e)) (λ v. goes_called_move l h v)

-- solutions

goes_keeping : (at : Place) (k : ℕ) (m : SolverState) → GoesOn (keeping at k m)
goes_keeping at k m = goes_then (goes_unless m.closed at _) (λ _. record { from = λ s. onward_refl (left s) })

pub goes_make_solution : (at : Place) (k : ℕ) → GoesOn (make_solution at k)
unfolding make_solution
goes_make_solution at k = goes_at (λ s. goes_keeping at k (solver_at s k))

goes_restoring : (at : Place) (k : ℕ) (values : List ℤ) (m : SolverState) → GoesOn (restoring at k values m)
unfolding restoring
goes_restoring at k values m =
    goes_then (goes_unless m.closed at _) (λ _. goes_then (goes_unless (nat_eq (length values) (length (free_variables m))) at _) (λ _. goes_move k _))

goes_restore_in : (at : Place) (x : Snapshot) → GoesOn (restore_in at x)
unfolding restore_in
goes_restore_in at x = goes_at (λ s. goes_restoring at x.solver x.values _)

goes_restored : (at : Place) (x : Option Snapshot) → GoesOn (restored at x)
goes_restored at None = goes_give
goes_restored at (Some x) = goes_then (goes_noticed x.solver (goes_restore_in at x)) (λ _. goes_give)

pub goes_restore : (at : Place) (v : Value) → GoesOn (restore at v)
unfolding restore
goes_restore at (values.Solution n) = goes_at (λ s. goes_restored at (slice_get s.search.solutions n))
goes_restore at v = goes_give
