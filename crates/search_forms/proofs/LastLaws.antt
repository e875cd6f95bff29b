-- The candidates for the values of the last generator, behind the values that the names of those in front of it have.
use Rattle.std.proofs.Common.{◌≡◌, inl, inr, refl, sym, subst, ap, ◌∙◌, ℕ, ◌+◌, ◌<◌, ◌≤◌, ℤ, List, [], ◌∷◌, ◌++◌, map, length, take, get_or, Some, None}
use Rattle.std.proofs.lemmas.List.{take_more, take_all, map-append, length-map}
use Rattle.cbl_base.specs.declared.place.Place.{Place}
use Rattle.checked_tree.specs.declared.expressions.Generator.{Generator}
use Rattle.checked_tree.specs.declared.expressions.Slot.{Slot}
use Rattle.checked_tree.specs.Shape.{Shape, seen, whole, shape_of_generator}
use Rattle.comet_meaning.specs.Candidates.{Candidate, last_form, values_in, values_now, with_candidate}
use Rattle.comet_meaning.specs.Cells.{held, look}
use Rattle.comet_meaning.specs.Levels.{Level}
use Rattle.comet_meaning.specs.Odometer.{Pending, pending_of, next_of, behind_next, each_pending}
use Rattle.comet_meaning.specs.Onward.{GoesOn, IsFront, left_by}
use Rattle.comet_meaning.specs.Outcome.{Outcome, Went, Halted, Act, ◌>>=◌, always, then_do}
use Rattle.comet_meaning.specs.Parts.{value}
use Rattle.comet_meaning.specs.State.{State}
use Rattle.comet_meaning.specs.Values.{Value, Nothing, number_of}
use Rattle.comet_meaning.proofs.Endings.{halted_then, went_then}
use Rattle.comet_meaning.proofs.GoingOn.{goes_each_in, goes_then}
use Rattle.comet_meaning.proofs.GoingParts.{LevelGoesOn}
use Rattle.comet_meaning.proofs.GoingSearch.{goes_values_now, goes_with_candidate}
use Rattle.comet_meaning.proofs.Tuples.{each_in_is, pending_ends, pending_step}
use Rattle.run_values.specs.Did.{Stopped}
use Rattle.run_values.specs.declared.stop.Stop.{Stop}
use Rattle.run_values.specs.declared.stop.Stop.TheVariants.{Fault, Spent, Cyclic, NoMemory, Output}
use Rattle.run_steps.specs.Does.{Ends}
use Rattle.run_steps.specs.OpenTuples.{SameLeft}
use Rattle.run_steps.proofs.Exits.{ends_passes}
use Rattle.run_steps.proofs.Forms.{generator_is}
use Rattle.search_forms.specs.Fronts.{values_behind}

-- what stopped a part stopped the whole
stopped_passes : {A B : Type 0} (stop : Stop) (s : State) (o : Outcome A) (f : A → Act B) → Stopped stop s o → Stopped stop s (then_do o f)
stopped_passes (Fault place x) s o f e = halted_then f e
stopped_passes (Spent place) s o f e = halted_then f e
stopped_passes (Cyclic place names) s o f e = halted_then f e
stopped_passes NoMemory s o f e = tt
stopped_passes (Output x) s o f e = tt

-- ---- a candidate for each value

-- for each of the values that are left
abbrev pub values_left : Place → List ℤ → Pending → List Candidate → Act (List Candidate)
values_left at known p cs = each_pending always (λ v ds. with_candidate at (known ++ v ∷ []) ds) p cs

module _ (at : Place) (known : List ℤ) where
  -- where the same values are left the same candidates are added
  left_same : (p q : Pending) (cs : List Candidate) (s : State) → SameLeft p q → values_left at known p cs s ≡ values_left at known q cs s
  left_same p q cs s (inl e) = ap (λ r. values_left at known r cs s) e
  left_same p q cs s (inr (a, b)) = pending_ends always _ p cs s a ∙ sym (pending_ends always _ q cs s b)

  -- at the start all are left
  pub values_open : (p : Pending) (d : Value) (cs : List Candidate) (s : State) → p ≡ pending_of d → values_left at known p cs s ≡ values_behind at known d cs s
  values_open p d cs s e = ap (λ q. values_left at known q cs s) e ∙ ap (λ (m : Act (List Candidate)). m s) (sym (each_in_is always _ d cs))

  module _ (p : Pending) (cs : List Candidate) (s : State) {w : Outcome (List Candidate)} (m : values_left at known p cs s ≡ w) where
    -- none is left
    pub values_end : None ≡ next_of p → w ≡ Went cs s
    values_end e = sym m ∙ pending_ends always _ p cs s (sym e)

    -- the next one
    next_first : (v : ℤ) → Some v ≡ next_of p → then_do (with_candidate at (known ++ v ∷ []) cs s) (values_left at known (behind_next p)) ≡ w
    next_first v e = sym (pending_step always _ p v cs s refl (sym e)) ∙ m

    pub value_added : (v : ℤ) (q : Pending) (ds : List Candidate) → Some v ≡ next_of p → SameLeft (behind_next p) q → with_candidate at (known ++ v ∷ []) cs s ≡ Went ds s → values_left at known q ds s ≡ w
    value_added v q ds e same added = sym (left_same (behind_next p) q ds s same) ∙ sym (went_then _ added) ∙ next_first v e

    pub value_stops : (v : ℤ) (stop : Stop) → Some v ≡ next_of p → Stopped stop s (with_candidate at (known ++ v ∷ []) cs s) → Stopped stop s w
    value_stops v stop e h =
        subst (Stopped stop s) (next_first v e)
        (stopped_passes stop s (with_candidate at (known ++ v ∷ []) cs s) (values_left at known (behind_next p)) h)

-- ---- the values that names have

-- of each generator's name
abbrev pub values_of : State → List Generator → List ℤ
values_of s gs = map (λ (g : Generator). number_of (held s g.slot)) gs

values_are : (s : State) (gs : List Generator) → values_in s (map shape_of_generator gs) ≡ values_of s gs
values_are s [] = refl
values_are s (g ∷ gs) = ap (λ h. values_in s (h ∷ map shape_of_generator gs)) (generator_is g) ∙ ap (λ vs. number_of (held s g.slot) ∷ vs) (values_are s gs)

value_given : Outcome Value → Value
value_given (Went v s) = v
value_given (Halted h t) = Nothing

pub looked : (slot : Slot) (s : State) {v : Value} → look slot s ≡ Went v s → held s slot ≡ v
unfolding look value_given
looked slot s e = ap value_given e

-- one more
pub value_more : (s : State) (gs : List Generator) (i : ℕ) (g : Generator) (vs : List ℤ) {v : Value} → i < length gs → g ≡ get_or gs i g → look g.slot s ≡ Went v s → vs ≡ values_of s (take i gs) → vs ++ number_of v ∷ [] ≡ values_of s (take (i + 1) gs)
value_more s gs i g vs {v} h is e m =
    ap (λ ws. ws ++ number_of v ∷ []) m
    ∙ ap (λ w. values_of s (take i gs) ++ number_of w ∷ []) (sym (looked g.slot s e))
    ∙ sym (map-append (λ (x : Generator). number_of (held s x.slot)) (take i gs) (g ∷ []))
    ∙ ap (λ x. values_of s (take i gs ++ x ∷ [])) is
    ∙ ap (values_of s) (sym (take_more gs i g h))

module _ (s : State) (gs : List Generator) (i : ℕ) (vs : List ℤ) (h : length gs ≤ i) (m : vs ≡ values_of s (take i gs)) where
  all_of : vs ≡ values_of s gs
  all_of = m ∙ ap (values_of s) (take_all i gs h)

  -- all of them
  pub values_known : values_now (map shape_of_generator gs) s ≡ Went vs s
  unfolding values_now
  values_known = ap (λ ws. Went ws s) (values_are s gs ∙ sym all_of)

  pub values_many : length vs ≡ length gs
  values_many = ap length all_of ∙ length-map gs (λ (g : Generator). number_of (held s g.slot))

-- ---- the last generator

module _ (l : Level) (k : LevelGoesOn l) (at : Place) (front : List Shape) (g : Generator) (cs : List Candidate) (s : State) where
  last_is : last_form l at front (shape_of_generator g) cs s ≡ then_do (value l (whole (seen g.domain)) s) (λ d. values_now front >>= λ known. values_behind at known d cs)
  unfolding last_form
  last_is = ap (λ h. last_form l at front h cs s) (generator_is g)

  goes_behind : (d : Value) → GoesOn (values_now front >>= λ known. values_behind at known d cs)
  goes_behind d = goes_then (goes_values_now front) (λ known. goes_each_in always _ d cs (λ v ds. goes_with_candidate at _ ds))

  -- its domain ended the run
  pub domain_ends : (stop : Stop) (t : State) → Ends stop t (value l (whole (seen g.domain)) s) → Ends stop t (last_form l at front (shape_of_generator g) cs s)
  domain_ends stop t e = subst (Ends stop t) (sym last_is) (ends_passes stop t _ _ (value l (whole (seen g.domain)) s) _ goes_behind e)

  module _ {d : Value} {t : State} (e : value l (whole (seen g.domain)) s ≡ Went d t) where
    -- there was no memory for the values in front
    pub known_ends : (stop : Stop) → stop ≡ NoMemory → Ends stop t (last_form l at front (shape_of_generator g) cs s)
    known_ends stop h =
        subst (λ z. Ends z t (last_form l at front (shape_of_generator g) cs s)) (sym h)
        (subst (λ o. IsFront t.printed (left_by o).printed) (sym (last_is ∙ went_then _ e)) ((goes_behind d).from t).printed)

    -- a candidate for each of its values
    pub last_went : {known : List ℤ} → values_now front t ≡ Went known t → last_form l at front (shape_of_generator g) cs s ≡ values_behind at known d cs t
    last_went n = last_is ∙ went_then _ e ∙ went_then _ n

pub goes_values : (at : Place) (known : List ℤ) (d : Value) (cs : List Candidate) → GoesOn (values_behind at known d cs)
goes_values at known d cs = goes_each_in always _ d cs (λ v ds. goes_with_candidate at _ ds)
