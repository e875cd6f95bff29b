-- The candidates behind the generators in front of the last one, one tuple after the other.
use Rattle.std.proofs.Common.{◌≡◌, refl, sym, subst, ap, ◌∙◌, ◌-◌, ◌<◌, ℤ, List, [], ◌∷◌, map, length, get_or, take, drop, arith}
use Rattle.cbl_base.specs.declared.place.Place.{Place}
use Rattle.checked_tree.specs.declared.expressions.Generator.{Generator}
use Rattle.checked_tree.specs.Shape.{Shape, seen, whole, shape_of_generator}
use Rattle.comet_meaning.specs.Candidates.{Candidate, candidates_form, in_front, last_form, last_of, name_place}
use Rattle.comet_meaning.specs.Values.{Value}
use Rattle.comet_meaning.specs.State.{State}
use Rattle.comet_meaning.specs.Outcome.{Outcome, Went, always}
use Rattle.comet_meaning.specs.Levels.{Level}
use Rattle.comet_meaning.specs.Parts.{value}
use Rattle.comet_meaning.specs.Generators.{Bound, each_tuple}
use Rattle.comet_meaning.specs.Odometer.{Pending, pending_of, stack_of}
use Rattle.comet_meaning.proofs.GoingParts.{LevelGoesOn}
use Rattle.comet_meaning.proofs.GoingSearch.{goes_last}
use Rattle.comet_meaning.proofs.Endings.{went_then}
use Rattle.comet_meaning.proofs.TupleSteps as steps
use Rattle.comet_meaning.proofs.TupleStack.{IsGenerator, is_generator, tuples_open}
use Rattle.run_values.specs.declared.stop.Stop.{Stop}
use Rattle.run_steps.specs.Does.{Ends}
use Rattle.run_steps.specs.OpenTuples.{candidates, Visits, Remains, Found}
use Rattle.run_steps.proofs.Exits.{ends_passes}
use Rattle.run_steps.proofs.Forms.{generator_is}
use Rattle.search_forms.specs.Fronts.{behind_front, last_place}

-- the candidates so far, and the outcome of all
abbrev pub lists : (l : Level) → LevelGoesOn l → Place → List Shape → Shape → List Candidate → Outcome (List Candidate) → Visits
lists l k at front last cs w = record {
  made = candidates;
  more = always;
  visit = λ v ds. last_form l at front last ds;
  so_far = cs;
  whole = w;
  goes = λ v ds. goes_last l k at front last ds;
  on = refl;
}

module _ (l : Level) (k : LevelGoesOn l) (at : Place) (gs : List Generator) (last : Shape) where
  abbrev front : List Shape
  front = map shape_of_generator gs

  -- the start: the first generator's domain gave a value, or it ended the run
  module _ (cs : List Candidate) (s : State) (g : Generator) (h : 0 < length gs) (is : g ≡ get_or gs 0 g) where
    stands : IsGenerator shape_of_generator gs 0 g.place g.slot (whole (seen g.domain))
    stands = is_generator shape_of_generator gs 0 g h is (generator_is g)

    pub lists_open : (place : Place) {d : Value} {t : State} → last_place front ≡ place → value l (whole (seen g.domain)) s ≡ Went d t → Remains l place (lists l k at front last cs (behind_front l at front last cs s)) gs [] (pending_of d ∷ []) t
    lists_open place there e =
        let m = tuples_open l place always (λ v ds. last_form l at front last ds) shape_of_generator gs cs s front refl stands e in
        record { rest = m.rest ∙ ap (λ p. each_tuple l p always (λ v ds. last_form l at front last ds) [] front cs s) (sym there); known = m.known; inside = m.inside }

    pub lists_end : (stop : Stop) (t : State) → Ends stop t (value l (whole (seen g.domain)) s) → Ends stop t (behind_front l at front last cs s)
    lists_end stop t e =
        subst (λ (hs : List Shape). Ends stop t (each_tuple l (last_place front) always (λ v ds. last_form l at front last ds) [] hs cs s)) (sym stands.there)
        (steps.start_err l (last_place front) always (λ v ds. last_form l at front last ds) [] g.place g.slot (whole (seen g.domain)) (map shape_of_generator (drop 1 gs)) cs s _ (ends_passes stop t) k (λ v ds. goes_last l k at front last ds) e)

  -- a tuple: the candidates behind it are added, or they ended the run
  module _ {place : Place} {cs : List Candidate} {w : Outcome (List Candidate)} {bounds : List Bound} {ps : List Pending} {v : ℤ} {s : State} (f : Found l place (lists l k at front last cs w) gs bounds ps v s) where
    pub list_added : {ds : List Candidate} {t : State} → last_form l at front last cs s ≡ Went ds t → Remains l place (lists l k at front last ds w) gs bounds ps t
    list_added e = record { rest = sym (went_then _ e) ∙ f.rest; known = f.known; inside = f.inside }

    pub list_ends : (stop : Stop) (t : State) → Ends stop t (last_form l at front last cs s) → Ends stop t w
    list_ends stop t e =
        subst (Ends stop t) f.rest
        (ends_passes stop t _ _ (last_form l at front last cs s) _ (λ ds. steps.goes_rest l k place always (λ v es. last_form l at front last es) (stack_of front bounds ps) ds (λ u es. goes_last l k at front last es)) e)

-- ---- the generators in front, and the last one

-- so many stand in front
fewer : (g : Generator) (gs : List Generator) → length (g ∷ gs) - 1 ≡ length gs
fewer g gs = omega arith

front_is : (g : Generator) (gs : List Generator) → in_front (map shape_of_generator (g ∷ gs)) ≡ map shape_of_generator (take (length gs) (g ∷ gs))
front_is g [] = refl
front_is g (h ∷ gs) = ap (λ xs. shape_of_generator g ∷ xs) (front_is h gs)

last_is : (g : Generator) (gs : List Generator) (d : Generator) → last_of (shape_of_generator g) (map shape_of_generator gs) ≡ shape_of_generator (get_or (g ∷ gs) (length gs) d)
last_is g [] d = refl
last_is g (h ∷ gs) d = last_is h gs d

last_found : (g : Generator) (gs : List Generator) (d : Generator) → d ≡ get_or (g ∷ gs) (length (g ∷ gs) - 1) d → last_of (shape_of_generator g) (map shape_of_generator gs) ≡ shape_of_generator d
last_found g gs d is = last_is g gs d ∙ ap shape_of_generator (ap (λ n. get_or (g ∷ gs) n d) (sym (fewer g gs)) ∙ sym is)

-- the place of the last of them is that of its name
pub place_is : (gs : List Generator) (g : Generator) → 0 < length gs → g ≡ get_or gs (length gs - 1) g → last_place (map shape_of_generator gs) ≡ g.place
place_is [] g h is = absurd (omega (arith, h))
place_is (x ∷ xs) g h is = ap name_place (last_found x xs g is ∙ generator_is g)

-- none, one, and several
module _ (l : Level) (at : Place) where
  pub no_generator : (gs : List Generator) (s : State) → length gs ≡ 0 → candidates_form l at (map shape_of_generator gs) s ≡ Went [] s
  unfolding candidates_form
  no_generator [] s h = refl
  no_generator (x ∷ gs) s h = absurd (omega (arith, h))

  pub one_generator : (gs : List Generator) (g : Generator) (s : State) → length gs ≡ 1 → g ≡ get_or gs (length gs - 1) g →
      candidates_form l at (map shape_of_generator gs) s ≡ last_form l at (map shape_of_generator (take (length gs - 1) gs)) (shape_of_generator g) [] s
  unfolding candidates_form
  one_generator [] g s h is = absurd (omega (arith, h))
  one_generator (x ∷ []) g s h is = ap (λ (y : Generator). last_form l at [] (shape_of_generator y) [] s) (sym is)
  one_generator (x ∷ y ∷ gs) g s h is = absurd (omega (arith, h))

  pub several_generators : (gs : List Generator) (g : Generator) (s : State) → 1 < length gs → g ≡ get_or gs (length gs - 1) g →
      candidates_form l at (map shape_of_generator gs) s ≡ behind_front l at (map shape_of_generator (take (length gs - 1) gs)) (shape_of_generator g) [] s
  unfolding candidates_form
  several_generators [] g s h is = absurd (omega (arith, h))
  several_generators (x ∷ []) g s h is = absurd (omega (arith, h))
  several_generators (x ∷ y ∷ gs) g s h is =
      ap (λ hs. behind_front l at hs (last_of (shape_of_generator y) (map shape_of_generator gs)) [] s) (front_is x (y ∷ gs) ∙ ap (λ n. map shape_of_generator (take n (x ∷ y ∷ gs))) (sym (fewer x (y ∷ gs))))
      ∙ ap (λ e. behind_front l at (map shape_of_generator (take (length (x ∷ y ∷ gs) - 1) (x ∷ y ∷ gs))) e [] s) (last_found x (y ∷ gs) g is)
