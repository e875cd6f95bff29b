-- The elements of an aggregate, one tuple after the other.
use Rattle.std.proofs.Common.{◌≡◌, refl, sym, subst, ap, ◌∙◌, ℕ, ◌<◌, ℤ, List, [], ◌∷◌, map, length, get_or, drop, Ok, Option, Some, None, Bool, true, if◌then◌else◌}
use Rattle.cbl_base.specs.declared.place.Place.{Place}
use Rattle.comet_syntax.specs.declared.tree.expressions.Aggregate.{Aggregate}
use Rattle.checked_tree.specs.declared.expressions.Generator.{Generator}
use Rattle.checked_tree.specs.Shape.{Shape, seen, whole, shape_of_generator}
use Rattle.comet_meaning.specs.Values.{Value}
use Rattle.comet_meaning.specs.State.{State}
use Rattle.comet_meaning.specs.Outcome.{Outcome, Went, then_do, always, give, ◌>>=◌}
use Rattle.comet_meaning.specs.Cells.{back_in, in_scope}
use Rattle.comet_meaning.specs.Levels.{Code, Level}
use Rattle.comet_meaning.specs.Parts.{value, condition}
use Rattle.comet_meaning.specs.Generators.{Bound, each_tuple}
use Rattle.comet_meaning.specs.Aggregates.{Element, with_element, element_form, aggregate_value, aggregate_form}
use Rattle.comet_meaning.specs.Odometer.{Pending, pending_of, stack_of}
use Rattle.comet_meaning.specs.Onward.{IsFront, left_by}
use Rattle.comet_meaning.specs.Program.{level}
use Rattle.comet_meaning.proofs.GoingOn.{goes_back_in}
use Rattle.comet_meaning.proofs.GoingExpressions.{goes_element, goes_aggregate_value}
use Rattle.comet_meaning.proofs.GoingStatements.{goes_level}
use Rattle.comet_meaning.proofs.Endings.{went_then}
use Rattle.comet_meaning.proofs.Rows.{items_rows}
use Rattle.comet_meaning.proofs.TupleSteps as steps
use Rattle.comet_meaning.proofs.TupleStack.{IsGenerator, is_generator, tuples_none, tuples_open}
use Rattle.run_values.specs.declared.stop.Stop.{Stop}
use Rattle.run_values.specs.declared.stop.Stop.TheVariants.{NoMemory}
use Rattle.run_steps.specs.Does.{Ends}
use Rattle.run_steps.specs.OpenTuples.{elements, Visits, Remains, Found, Advances}
use Rattle.run_steps.specs.declared.tuples.Tuples.{Tuples}
use Rattle.run_steps.specs.Views.{generators_seen}
use Rattle.run_steps.proofs.Exits.{ends_passes}
use Rattle.run_steps.proofs.Forms.{generator_is}

-- the elements so far, and the outcome of all
abbrev pub gathers : Code → ℕ → Place → Aggregate → Shape → Shape → List Element → Outcome (List Element) → Visits
gathers code room at a c body xs w = record {
  made = elements;
  more = always;
  visit = element_form (level code room) at a c body;
  so_far = xs;
  whole = w;
  goes = λ v ys. goes_element (level code room) (goes_level code room) at a c body v ys;
  on = refl;
}

module _ (code : Code) (room : ℕ) (at : Place) (a : Aggregate) (c body : Shape) (gs : List Generator) where
  abbrev pub all : State → Outcome (List Element)
  all s = each_tuple (level code room) at always (element_form (level code room) at a c body) [] (generators_seen gs) [] s

  pub no_elements : (s : State) → length gs ≡ 0 → all s ≡ Went [] s
  no_elements s h = tuples_none (level code room) at always (element_form (level code room) at a c body) shape_of_generator gs [] s (generators_seen gs) (items_rows (map shape_of_generator gs)) h

  module _ (g : Generator) (h : 0 < length gs) (is : g ≡ get_or gs 0 g) where
    stands : IsGenerator shape_of_generator gs 0 g.place g.slot (whole (seen g.domain))
    stands = is_generator shape_of_generator gs 0 g h is (generator_is g)

    pub elements_open : (s : State) {d : Value} {t : State} → value (level code room) (whole (seen g.domain)) s ≡ Went d t → Remains (level code room) at (gathers code room at a c body [] (all s)) gs [] (pending_of d ∷ []) t
    elements_open s e =
        let m = tuples_open (level code room) at always (element_form (level code room) at a c body) shape_of_generator gs [] s (generators_seen gs) (items_rows (map shape_of_generator gs)) stands e in
        record { rest = m.rest; known = m.known; inside = m.inside }

    pub elements_end : (s : State) (stop : Stop) (t : State) → Ends stop t (value (level code room) (whole (seen g.domain)) s) → Ends stop t (all s)
    elements_end s stop t e =
        subst (λ (hs : List Shape). Ends stop t (each_tuple (level code room) at always (element_form (level code room) at a c body) [] hs [] s)) (sym (items_rows (map shape_of_generator gs) ∙ stands.there))
        (steps.start_err (level code room) at always (element_form (level code room) at a c body) [] g.place g.slot (whole (seen g.domain)) (map shape_of_generator (drop 1 gs)) [] s _ (ends_passes stop t) (goes_level code room) (λ v ys. goes_element (level code room) (goes_level code room) at a c body v ys) e)

  module _ (xs : List Element) (w : Outcome (List Element)) (bounds : List Bound) (ps : List Pending) (v : ℤ) (s : State) (f : Found (level code room) at (gathers code room at a c body xs w) gs bounds ps v s) where
    pub element_added : {ys : List Element} {t : State} → element_form (level code room) at a c body v xs s ≡ Went ys t → Remains (level code room) at (gathers code room at a c body ys w) gs bounds ps t
    element_added e = record { rest = sym (went_then _ e) ∙ f.rest; known = f.known; inside = f.inside }

    pub element_ends : (stop : Stop) (t : State) → Ends stop t (element_form (level code room) at a c body v xs s) → Ends stop t w
    element_ends stop t e =
        subst (Ends stop t) f.rest
        (ends_passes stop t _ _ _ _ (λ ys. steps.goes_rest (level code room) (goes_level code room) at always (element_form (level code room) at a c body) (stack_of (map shape_of_generator gs) bounds ps) ys (λ u zs. goes_element (level code room) (goes_level code room) at a c body u zs)) e)

-- the value of an aggregate

module _ (l : Level) (at : Place) (a : Aggregate) (gs : List Shape) (c body : Shape) (s : State) where
  pub aggregate_ends : (stop : Stop) (t : State) → Ends stop t (each_tuple l at always (element_form l at a c body) [] gs [] s) → Ends stop t (aggregate_form l at a gs c body s)
  unfolding aggregate_form in_scope
  aggregate_ends stop t e =
      ends_passes stop t _ _ (then_do (each_tuple l at always (element_form l at a c body) [] gs [] s) (back_in s.frame)) (aggregate_value at a) (λ xs. goes_aggregate_value at a xs)
      (ends_passes stop t _ _ (each_tuple l at always (element_form l at a c body) [] gs [] s) (back_in s.frame) (λ xs. goes_back_in s.frame xs) e)

  pub aggregate_went : {xs : List Element} {t : State} → each_tuple l at always (element_form l at a c body) [] gs [] s ≡ Went xs t → (frame : List Value) → frame ≡ s.frame → aggregate_form l at a gs c body s ≡ aggregate_value at a xs (record t { frame = frame })
  unfolding aggregate_form in_scope
  aggregate_went {xs} {t} e frame same =
      ap (λ (o : Outcome (List Element)). then_do (then_do o (back_in s.frame)) (aggregate_value at a)) e
      ∙ ap (λ fr. aggregate_value at a xs (record t { frame = fr })) (sym same)

pub memory_ends : {A : Type 0} (stop : Stop) (t : State) (o : Outcome A) → stop ≡ NoMemory → IsFront t.printed (left_by o).printed → Ends stop t o
memory_ends stop t o h k = subst (λ z. Ends z t o) (sym h) k

-- an element is added where the condition holds
pub element_adds : (l : Level) (at : Place) (a : Aggregate) (c body : Shape) (key : ℤ) (xs : List Element) (s : State) {b : Bool} {u t : State} {v : Value} → condition l c s ≡ Went b u → b ≡ true → value l body u ≡ Went v t → element_form l at a c body key xs s ≡ with_element at a key xs v t
unfolding element_form
element_adds l at a c body key xs s {u = u} p h e =
    went_then _ p
    ∙ ap (λ (x : Bool). (if x then (value l body >>= with_element at a key xs) else give xs) u) h
    ∙ went_then _ e

-- there is no more tuple
pub advances_none : (l : Level) (at : Place) (V : Visits) (gs : List Generator) (r : Option ℤ) (t : Tuples) (s : State) → Advances l at V gs (Ok r) t s → ((v : ℤ) → r ≡ Some v → ⊥) → V.whole ≡ Went V.so_far s
advances_none l at V gs None t s h k = h
advances_none l at V gs (Some v) t s h k = absurd (k v refl)
