-- The bodies of an aggregate in a term, one tuple after the other.
use Rattle.std.proofs.Common.{◌≡◌, refl, sym, subst, ap, ◌∙◌, ℕ, ◌<◌, ℤ, List, [], ◌∷◌, map, length, get_or, drop, Bool, true, if◌then◌else◌}
use Rattle.cbl_base.specs.declared.place.Place.{Place}
use Rattle.term_model.specs.declared.term.Term.{Term}
use Rattle.comet_syntax.specs.declared.tree.expressions.Aggregate.{Aggregate}
use Rattle.checked_tree.specs.declared.expressions.Generator.{Generator}
use Rattle.checked_tree.specs.Shape.{Shape, seen, whole, shape_of_generator}
use Rattle.comet_meaning.specs.Values.{Value}
use Rattle.comet_meaning.specs.State.{State}
use Rattle.comet_meaning.specs.Outcome.{Outcome, Went, always, give, ◌>>=◌}
use Rattle.comet_meaning.specs.Levels.{Code, Level}
use Rattle.comet_meaning.specs.Parts.{value, condition, term}
use Rattle.comet_meaning.specs.Generators.{Bound, each_tuple}
use Rattle.comet_meaning.specs.TermForms.{Keyed, bodies_of, with_keyed, keyed_form}
use Rattle.comet_meaning.specs.Odometer.{Pending, pending_of, stack_of}
use Rattle.comet_meaning.specs.Program.{level}
use Rattle.comet_meaning.proofs.GoingTerms.{goes_keyed}
use Rattle.comet_meaning.proofs.GoingStatements.{goes_level}
use Rattle.comet_meaning.proofs.Endings.{went_then}
use Rattle.comet_meaning.proofs.Rows.{items_rows}
use Rattle.comet_meaning.proofs.TupleSteps as steps
use Rattle.comet_meaning.proofs.TupleStack.{IsGenerator, is_generator, tuples_none, tuples_open}
use Rattle.run_values.specs.declared.stop.Stop.{Stop}
use Rattle.run_steps.specs.Does.{Ends}
use Rattle.run_steps.specs.OpenTuples.{bodies, Visits, Remains, Found}
use Rattle.run_steps.specs.Views.{generators_seen}
use Rattle.run_steps.proofs.Exits.{ends_passes}
use Rattle.run_steps.proofs.Forms.{generator_is}
use Rattle.form_parts.specs.Bodies.{body_seen, body_terms}
use Rattle.form_parts.specs.declared.bodies.Body.{Body}

-- the terms of bodies
pub terms_seen : (xs : List Body) → body_terms xs ≡ bodies_of (map body_seen xs)
terms_seen [] = refl
terms_seen (x ∷ xs) = ap (λ ts. x.term ∷ ts) (terms_seen xs)

-- the bodies so far, and the outcome of all
abbrev pub gathers : Code → ℕ → Place → Aggregate → Shape → Shape → List Keyed → Outcome (List Keyed) → Visits
gathers code room at a c body xs w = record {
  made = bodies;
  more = always;
  visit = keyed_form (level code room) at a c body;
  so_far = xs;
  whole = w;
  goes = λ v ys. goes_keyed (level code room) (goes_level code room) at a c body v ys;
  on = refl;
}

module _ (code : Code) (room : ℕ) (at : Place) (a : Aggregate) (c body : Shape) (gs : List Generator) where
  abbrev pub all : State → Outcome (List Keyed)
  all s = each_tuple (level code room) at always (keyed_form (level code room) at a c body) [] (generators_seen gs) [] s

  pub no_bodies : (s : State) → length gs ≡ 0 → all s ≡ Went [] s
  no_bodies s h = tuples_none (level code room) at always (keyed_form (level code room) at a c body) shape_of_generator gs [] s (generators_seen gs) (items_rows (map shape_of_generator gs)) h

  module _ (g : Generator) (h : 0 < length gs) (is : g ≡ get_or gs 0 g) where
    stands : IsGenerator shape_of_generator gs 0 g.place g.slot (whole (seen g.domain))
    stands = is_generator shape_of_generator gs 0 g h is (generator_is g)

    pub bodies_open : (s : State) {d : Value} {t : State} → value (level code room) (whole (seen g.domain)) s ≡ Went d t → Remains (level code room) at (gathers code room at a c body [] (all s)) gs [] (pending_of d ∷ []) t
    bodies_open s e =
        let m = tuples_open (level code room) at always (keyed_form (level code room) at a c body) shape_of_generator gs [] s (generators_seen gs) (items_rows (map shape_of_generator gs)) stands e in
        record { rest = m.rest; known = m.known; inside = m.inside }

    pub bodies_end : (s : State) (stop : Stop) (t : State) → Ends stop t (value (level code room) (whole (seen g.domain)) s) → Ends stop t (all s)
    bodies_end s stop t e =
        subst (λ (hs : List Shape). Ends stop t (each_tuple (level code room) at always (keyed_form (level code room) at a c body) [] hs [] s)) (sym (items_rows (map shape_of_generator gs) ∙ stands.there))
        (steps.start_err (level code room) at always (keyed_form (level code room) at a c body) [] g.place g.slot (whole (seen g.domain)) (map shape_of_generator (drop 1 gs)) [] s _ (ends_passes stop t) (goes_level code room) (λ v ys. goes_keyed (level code room) (goes_level code room) at a c body v ys) e)

  module _ (xs : List Keyed) (w : Outcome (List Keyed)) (bounds : List Bound) (ps : List Pending) (v : ℤ) (s : State) (f : Found (level code room) at (gathers code room at a c body xs w) gs bounds ps v s) where
    pub body_added : {ys : List Keyed} {t : State} → keyed_form (level code room) at a c body v xs s ≡ Went ys t → Remains (level code room) at (gathers code room at a c body ys w) gs bounds ps t
    body_added e = record { rest = sym (went_then _ e) ∙ f.rest; known = f.known; inside = f.inside }

    pub body_ends : (stop : Stop) (t : State) → Ends stop t (keyed_form (level code room) at a c body v xs s) → Ends stop t w
    body_ends stop t e =
        subst (Ends stop t) f.rest
        (ends_passes stop t _ _ _ _ (λ ys. steps.goes_rest (level code room) (goes_level code room) at always (keyed_form (level code room) at a c body) (stack_of (map shape_of_generator gs) bounds ps) ys (λ u zs. goes_keyed (level code room) (goes_level code room) at a c body u zs)) e)

-- a body is added where the condition holds
pub body_adds : (l : Level) (at : Place) (a : Aggregate) (c body : Shape) (key : ℤ) (xs : List Keyed) (s : State) {b : Bool} {u r : State} {t : Term} → condition l c s ≡ Went b u → b ≡ true → term l body u ≡ Went t r → keyed_form l at a c body key xs s ≡ with_keyed at a key xs t r
unfolding keyed_form
body_adds l at a c body key xs s {u = u} p h e =
    went_then _ p
    ∙ ap (λ (x : Bool). (if x then (term l body >>= with_keyed at a key xs) else give xs) u) h
    ∙ went_then _ e
