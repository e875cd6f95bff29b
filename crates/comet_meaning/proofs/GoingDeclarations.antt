-- Declarations of numbers, truth values, ranges, sets, arrays of numbers and objects go onward.
use Rattle.std.proofs.Common.{ℕ, ℤ, List, [], ◌∷◌, ◌++◌, Option, Some, None, nat_eq}
use Rattle.cbl_base.specs.declared.place.Place.{Place}
use Rattle.checked_tree.specs.declared.kind.Kind.{Kind}
use Rattle.checked_tree.specs.declared.kind.Kind.TheVariants as kinds
use Rattle.checked_tree.specs.declared.expressions.Slot.{Slot}
use Rattle.checked_tree.specs.declared.statements.Way.{Way}
use Rattle.checked_tree.specs.declared.statements.Way.TheVariants as ways
use Rattle.checked_tree.specs.Shape.{Seen, whole}
use Rattle.checked_tree.specs.Actions.{Started, Sized}
use Rattle.comet_meaning.specs.Values.{Value}
use Rattle.comet_meaning.specs.State.{left}
use Rattle.comet_meaning.specs.Outcome.{Act}
use Rattle.comet_meaning.specs.Levels.{Level}
use Rattle.comet_meaning.specs.Declarations.{Dimension, copied_form, scalar_form, dimensions_form, put_named, cell_count, each_cell, every_cell, start_number, next_cell, listed_form, started_cells, numbers_form, array_form, make_input, made_in, made_of_term, made_of_range, object_form}
use Rattle.comet_meaning.specs.Models.{make_solver}
use Rattle.comet_meaning.specs.Systems.{make_system, make_sum}
use Rattle.comet_meaning.specs.Solutions.{make_solution}
use Rattle.comet_meaning.specs.Onward.{GoesOn}
use Rattle.comet_meaning.proofs.GoingOn.{onward_refl, goes_then, goes_give, goes_if, goes_unless, goes_charge, goes_put, goes_new_array, goes_each_in}
use Rattle.comet_meaning.proofs.GoingParts.{LevelGoesOn, goes_value, goes_number, goes_bounds, goes_read_array, goes_one_term}
use Rattle.comet_meaning.proofs.GoingSystems.{goes_make_system, goes_make_sum, goes_make_objective}
use Rattle.comet_meaning.proofs.GoingSearch.{goes_make_selector, goes_make_solution}

pub goes_copied : (l : Level) → LevelGoesOn l → (at : Place) (slot : Slot) (e : Seen) → GoesOn (copied_form l at slot e)
unfolding copied_form
goes_copied l h at slot e =
    goes_then (goes_value l h (whole e)) (λ v. goes_then (goes_read_array e.place v) (λ c. goes_then (goes_charge _ at) (λ _. goes_then (goes_new_array _) (λ a. goes_put slot a))))

pub goes_scalar : (l : Level) → LevelGoesOn l → (at : Place) (slot : Slot) (k : Kind) (e : Option Seen) → GoesOn (scalar_form l at slot k e)
unfolding scalar_form
goes_scalar l h at slot k None = goes_put slot _
goes_scalar l h at slot kinds.Array (Some e) = goes_copied l h at slot e
goes_scalar l h at slot k (Some e) = goes_then (goes_value l h (whole e)) (λ v. goes_put slot _)

pub goes_dimensions : (l : Level) → LevelGoesOn l → (ds : List Sized) (known : List Dimension) → GoesOn (dimensions_form l ds known)
unfolding dimensions_form
goes_dimensions l h [] known = goes_give
goes_dimensions l h (d ∷ ds) known =
    goes_then (goes_bounds l h (whole d.range)) (λ b. goes_dimensions l h ds (known ++ record { slot = d.slot; bounds = b } ∷ []))

pub goes_put_named : (slot : Option Slot) (z : ℤ) → GoesOn (put_named slot z)
goes_put_named None z = goes_give
goes_put_named (Some slot) z = goes_put slot _

pub goes_each_cell : {A : Type 0} (visit : List ℤ → A → Act A) (ds : List Dimension) (is : List ℤ) (x : A) → ((js : List ℤ) (y : A) → GoesOn (visit js y)) → GoesOn (each_cell visit ds is x)
goes_each_cell visit [] is x k = k is x
goes_each_cell visit (d ∷ ds) is x k =
    goes_each_in _ _ _ x (λ z y. goes_then (goes_put_named d.slot z) (λ _. goes_each_cell visit ds (is ++ z ∷ []) y k))

pub goes_every_cell : {A : Type 0} (visit : List ℤ → List A → Act (List A)) (ds : List Dimension) → ((is : List ℤ) (xs : List A) → GoesOn (visit is xs)) → GoesOn (every_cell visit ds)
unfolding every_cell
goes_every_cell visit ds k = goes_if (nat_eq (cell_count ds) 0) goes_give (goes_each_cell visit ds [] [] k)

pub goes_start_number : (l : Level) → LevelGoesOn l → (e : Option Seen) → GoesOn (start_number l e)
unfolding start_number
goes_start_number l h None = goes_give
goes_start_number l h (Some e) = goes_number l h (whole e)

pub goes_next_cell : (l : Level) → LevelGoesOn l → (at : Place) (e : Option Seen) (is xs : List ℤ) → GoesOn (next_cell l at e is xs)
unfolding next_cell
goes_next_cell l h at e is xs = goes_then (goes_charge 1 at) (λ _. goes_then (goes_start_number l h e) (λ z. goes_give))

pub goes_listed : (l : Level) → LevelGoesOn l → (at : Place) (count : ℕ) (e : Seen) → GoesOn (listed_form l at count e)
unfolding listed_form
goes_listed l h at count e =
    goes_then (goes_value l h (whole e)) (λ v. goes_then (goes_read_array e.place v) (λ c. goes_then (goes_unless _ at _) (λ _. goes_then (goes_charge count at) (λ _. goes_give))))

pub goes_started_cells : (l : Level) → LevelGoesOn l → (at : Place) (ds : List Dimension) (w : Way) (e : Seen) → GoesOn (started_cells l at ds w e)
unfolding started_cells
goes_started_cells l h at ds ways.List e = goes_listed l h at _ e
goes_started_cells l h at ds w e = goes_every_cell _ ds (λ is xs. goes_next_cell l h at (Some e) is xs)

pub goes_numbers : (l : Level) → LevelGoesOn l → (at : Place) (ds : List Dimension) (x : Option Started) → GoesOn (numbers_form l at ds x)
unfolding numbers_form
goes_numbers l h at ds None = goes_every_cell _ ds (λ is xs. goes_next_cell l h at None is xs)
goes_numbers l h at ds (Some x) = goes_started_cells l h at ds x.way x.value

pub goes_array : (l : Level) → LevelGoesOn l → (at : Place) (slot : Slot) (sizes : List Sized) (x : Option Started) → GoesOn (array_form l at slot sizes x)
unfolding array_form
goes_array l h at slot sizes x =
    goes_then (goes_dimensions l h sizes []) (λ ds. goes_then (goes_unless _ at _) (λ _. goes_then (goes_numbers l h at ds x) (λ xs. goes_then (goes_new_array _) (λ a. goes_put slot a))))

pub goes_make_input : GoesOn make_input
unfolding make_input
goes_make_input = record { from = λ s. onward_refl (left s) }

pub goes_make_solver : GoesOn make_solver
unfolding make_solver
goes_make_solver = record { from = λ s. onward_refl (left s) }

pub goes_made_in : (l : Level) → LevelGoesOn l → (make : ℕ → Act Value) (es : List Seen) → ((k : ℕ) → GoesOn (make k)) → GoesOn (made_in l make es)
unfolding made_in
goes_made_in l h make (e ∷ []) k = goes_then (goes_value l h (whole e)) (λ v. k _)
goes_made_in l h make es k = goes_give

pub goes_made_of_term : (l : Level) → LevelGoesOn l → (at : Place) (es : List Seen) → GoesOn (made_of_term l at es)
unfolding made_of_term
goes_made_of_term l h at (e ∷ []) = goes_then (goes_one_term l h (whole e)) (λ t. goes_make_objective at t)
goes_made_of_term l h at es = goes_give

pub goes_made_of_range : (l : Level) → LevelGoesOn l → (es : List Seen) → GoesOn (made_of_range l es)
unfolding made_of_range
goes_made_of_range l h (e ∷ []) = goes_then (goes_value l h (whole e)) (λ v. goes_give)
goes_made_of_range l h es = goes_give

pub goes_object : (l : Level) → LevelGoesOn l → (at : Place) (slot : Slot) (k : Kind) (es : List Seen) → GoesOn (object_form l at slot k es)
unfolding object_form
goes_object l h at slot kinds.Solver es = goes_then goes_make_solver (λ v. goes_put slot v)
goes_object l h at slot kinds.Input es = goes_then goes_make_input (λ v. goes_put slot v)
goes_object l h at slot kinds.System es = goes_then (goes_made_in l h (make_system at) es (goes_make_system at)) (λ v. goes_put slot v)
goes_object l h at slot kinds.Total es = goes_then (goes_made_in l h (make_sum at) es (goes_make_sum at)) (λ v. goes_put slot v)
goes_object l h at slot kinds.Objective es = goes_then (goes_made_of_term l h at es) (λ v. goes_put slot v)
goes_object l h at slot kinds.Distribution es = goes_then (goes_made_of_range l h es) (λ v. goes_put slot v)
goes_object l h at slot kinds.Selector es = goes_then goes_make_selector (λ v. goes_put slot v)
goes_object l h at slot kinds.Solution es = goes_then (goes_made_in l h (make_solution at) es (goes_make_solution at)) (λ v. goes_put slot v)
goes_object l h at slot k es = goes_give
