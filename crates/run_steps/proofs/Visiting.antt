-- A loop over tuples that ends where the body returns.
use Rattle.std.proofs.Common.{◌≡◌, refl, sym, subst, ap, ◌∙◌, ◌≤◌, ℤ, List, [], ◌∷◌, map, drop, Option, Some, None}
use Rattle.std.specs.Prelude.{slice_get}
use Rattle.cbl_base.specs.declared.place.Place.{Place}
use Rattle.checked_tree.specs.declared.expressions.Generator.{Generator, fold_out-Generator}
use Rattle.checked_tree.specs.declared.expressions.Typed.{fold_out-Typed}
use Rattle.checked_tree.specs.Shape as shapes
use Rattle.checked_tree.specs.Shape.{Shape, Seen, seen, whole, shape_of, shape_of_generator, form_layer, generator_layer, link_layer, typed_layer, optional}
use Rattle.checked_tree.specs.Tasks.{Work}
use Rattle.comet_meaning.specs.Values.{Value}
use Rattle.comet_meaning.specs.State.{State}
use Rattle.comet_meaning.specs.Outcome.{Outcome, Went, then_do}
use Rattle.comet_meaning.specs.Levels.{Level, Flow, Next, Returned}
use Rattle.comet_meaning.specs.Loops.{is_next, visited, for_all_form}
use Rattle.comet_meaning.specs.Parts.{value}
use Rattle.comet_meaning.specs.Generators.{Bound, each_tuple}
use Rattle.comet_meaning.specs.Odometer.{Pending, opened, pending_of, rest_of}
use Rattle.comet_meaning.specs.Onward.{left_by}
use Rattle.comet_meaning.proofs.GoingParts.{LevelGoesOn}
use Rattle.comet_meaning.proofs.GoingStatements.{goes_visited}
use Rattle.comet_meaning.proofs.Rows.{found_stands}
use Rattle.comet_meaning.proofs.Tuples.{rest_is_over, tuples_start}
use Rattle.comet_meaning.proofs.TupleSteps.{goes_rest}
use Rattle.comet_meaning.proofs.TupleStack.{is_generator, tuples_open}
use Rattle.comet_meaning.proofs.Endings.{went_then}
use Rattle.run_values.specs.declared.stop.Stop.{Stop}
use Rattle.run_steps.specs.Does.{Ends}
use Rattle.run_steps.specs.OpenTuples.{Visits, Remains, Found, flow}
use Rattle.run_steps.proofs.Stops.{ended_then}

-- the whole of a `forall`, and what is done with each tuple
abbrev pub visits : (l : Level) → LevelGoesOn l → Shape → Work → Outcome Flow → Visits
visits l k c body w = record {
  made = flow;
  more = is_next;
  visit = visited l c body;
  so_far = Next;
  whole = w;
  goes = λ v x. goes_visited l k c body v x;
  on = refl;
}

pub generator_is : (g : Generator) → shape_of_generator g ≡ shapes.generator g.place g.slot (whole (seen g.domain))
unfolding shape_of shape_of_generator
generator_is g =
    fold_out-Generator Shape Shape Shape Seen form_layer generator_layer link_layer typed_layer g
    ∙ ap (λ t. shapes.generator g.place g.slot (whole t)) (fold_out-Typed Shape Shape Shape Seen form_layer generator_layer link_layer typed_layer g.domain)

-- what stands before the first value

pub visiting_none : (l : Level) (at : Place) (gs : List Generator) (c : Option Seen) (body : Work) (s : State) → None ≡ slice_get gs 0 → for_all_form l at (map shape_of_generator gs) c body s ≡ Went Next s
unfolding for_all_form each_tuple
visiting_none l at [] c body s h = refl
visiting_none l at (g ∷ gs) c body s h = absurd cc

first_there : (gs : List Generator) (first : Generator) → Some first ≡ slice_get gs 0 → map shape_of_generator gs ≡ shapes.generator first.place first.slot (whole (seen first.domain)) ∷ map shape_of_generator (drop 1 gs)
first_there [] first h = absurd cc
first_there (g ∷ gs) first h = let same : g ≡ first = cc in ap (λ (x : Generator). shape_of_generator x ∷ map shape_of_generator gs) same ∙ ap (λ x. x ∷ map shape_of_generator gs) (generator_is first)

module _ (l : Level) (k : LevelGoesOn l) (at : Place) (gs : List Generator) (first : Generator) (c : Option Seen) (body : Work) (s : State) (h : Some first ≡ slice_get gs 0) where
  for_all_is : for_all_form l at (map shape_of_generator gs) c body s ≡ then_do (value l (whole (seen first.domain)) s) (λ d. rest_of l at is_next (visited l (optional whole c) body) (opened [] first.place first.slot (map shape_of_generator (drop 1 gs)) d ∷ []) Next)
  unfolding for_all_form
  for_all_is =
      ap (λ hs. each_tuple l at is_next (visited l (optional whole c) body) [] hs Next s) (first_there gs first h)
      ∙ tuples_start l at is_next (visited l (optional whole c) body) [] first.place first.slot (whole (seen first.domain)) (map shape_of_generator (drop 1 gs)) Next s

  pub visiting_stays : (stop : Stop) (t : State) → Ends stop t (value l (whole (seen first.domain)) s) → Ends stop t (for_all_form l at (map shape_of_generator gs) c body s)
  visiting_stays stop t e =
      subst (Ends stop t) (sym for_all_is) (ended_then stop t _ _ (λ d. goes_rest l k at is_next (visited l (optional whole c) body) (opened [] first.place first.slot (map shape_of_generator (drop 1 gs)) d ∷ []) Next (λ v y. goes_visited l k (optional whole c) body v y)) e)

  pub visiting_starts : (d : Value) (t : State) → value l (whole (seen first.domain)) s ≡ Went d t → Remains l at (visits l k (optional whole c) body (for_all_form l at (map shape_of_generator gs) c body s)) gs [] (pending_of d ∷ []) t
  unfolding for_all_form
  visiting_starts d t e =
      let p = found_stands gs 0 first (sym h) in
      let m = tuples_open l at is_next (visited l (optional whole c) body) shape_of_generator gs Next s (map shape_of_generator gs) refl (is_generator shape_of_generator gs 0 first p.0 p.1 (generator_is first)) e in
      record { rest = m.rest; known = m.known; inside = m.inside }

-- a tuple

module _ (l : Level) (k : LevelGoesOn l) (c : Shape) (body : Work) {at : Place} {w : Outcome Flow} {gs : List Generator} {bounds : List Bound} {ps : List Pending} {v : ℤ} {s : State} (m : Found l at (visits l k c body w) gs bounds ps v s) where
  pub visiting_stops : (stop : Stop) (t : State) → Ends stop t (visited l c body v Next s) → Ends stop t w
  visiting_stops stop t e = subst (Ends stop t) m.rest (ended_then stop t _ _ (λ x. goes_rest l k at is_next (visited l c body) _ x (λ v y. goes_visited l k c body v y)) e)

  pub visiting_returns : (x : Option Value) (t : State) → visited l c body v Next s ≡ Went (Returned x) t → w ≡ Went (Returned x) t
  visiting_returns x t e = sym m.rest ∙ went_then _ e ∙ rest_is_over l at is_next (visited l c body) _ (Returned x) t refl

  pub visiting_goes_on : (t : State) → visited l c body v Next s ≡ Went Next t → Remains l at (visits l k c body w) gs bounds ps t
  visiting_goes_on t e = record { rest = sym (went_then _ e) ∙ m.rest; known = m.known; inside = m.inside }

  pub visiting_spends : (x : Flow) (t : State) → visited l c body v Next s ≡ Went x t → t.fuel ≤ s.fuel
  visiting_spends x t e = let on = (goes_visited l k c body v Next).from s in subst (λ (o : Outcome Flow). (left_by o).fuel ≤ s.fuel) e on.fuel
