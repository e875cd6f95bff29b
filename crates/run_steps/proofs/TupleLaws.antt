-- The steps of the loop over tuples, on generators as the code keeps them.
use Rattle.std.proofs.Common.{◌≡◌, inl, inr, refl, sym, subst, ap, ◌∙◌, arith, ℕ, zero, suc, ◌+◌, ◌-◌, ◌<◌, ◌≤◌, ℤ, Bool, List, [], ◌∷◌, ◌++◌, map, reverse, length, take, drop, get_or, Some, None}
use Rattle.std.proofs.lemmas.List.{map-append, reverse-append, length-reverse, length-map, take_at, length_push, take_all}
use Rattle.cbl_base.specs.declared.place.Place.{Place}
use Rattle.checked_tree.specs.declared.expressions.Slot.{Slot}
use Rattle.checked_tree.specs.declared.expressions.Generator.{Generator}
use Rattle.checked_tree.specs.Shape as shapes
use Rattle.checked_tree.specs.Shape.{Shape, seen, whole, shape_of_generator}
use Rattle.comet_meaning.specs.Values.{Value}
use Rattle.comet_meaning.specs.State.{State, left}
use Rattle.comet_meaning.specs.Outcome.{Outcome, Went, Act, then_do}
use Rattle.comet_meaning.specs.Levels.{Level}
use Rattle.comet_meaning.specs.Parts.{value}
use Rattle.comet_meaning.specs.Generators.{Bound, with_bound}
use Rattle.comet_meaning.specs.Odometer.{Pending, pending_of, next_of, behind_next, each_pending, Opened, known_at, one_value, begun, rest_of, open_at, stack_of}
use Rattle.comet_meaning.specs.Onward.{IsOnward, left_by, GoesOn}
use Rattle.comet_meaning.proofs.GoingParts.{LevelGoesOn}
use Rattle.comet_meaning.proofs.Tuples.{rest_closes}
use Rattle.comet_meaning.proofs.TupleSteps as steps
use Rattle.comet_meaning.proofs.TupleStack.{IsGenerator, is_generator, none_later, one_later, top_at, TuplesLeft, tuples_end, tuples_onward, tuples_close, tuples_top, tuples_next}
use Rattle.run_values.specs.declared.stop.Stop.{Stop}
use Rattle.run_steps.specs.declared.tuples.Entered.{Entered}
use Rattle.run_steps.specs.declared.tuples.Tuples.{Tuples}
use Rattle.std.specs.Prelude.{IsErrAnd, Result, Ok, Err}
use Rattle.run_steps.specs.Does.{Ends}
use Rattle.run_steps.specs.OpenTuples.{SameLeft, Visits, Remains, Found, Entering, bound_seen, pending_seen, names_seen, rests_seen}
use Rattle.run_steps.proofs.Exits.{ends_passes}
use Rattle.run_steps.proofs.Forms.{generator_is}

none_pending : (bounds : List Bound) (n : ℕ) (p : Pending) (hs : List Shape) → next_of p ≡ None → next_of (open_at bounds n p hs).pending ≡ None
none_pending bounds n p (shapes.generator place slot domain ∷ hs) e = e
none_pending bounds n p hs e = refl

top_is : (gs : List Generator) (bounds : List Bound) (n : ℕ) (p : Pending) {place : Place} {slot : Slot} {domain : Shape} → IsGenerator shape_of_generator gs n place slot domain → take n bounds ≡ bounds → open_at bounds n p (drop n (map shape_of_generator gs)) ≡ top_at shape_of_generator gs bounds n place slot p
top_is gs bounds n p {place} {slot} g e =
    ap (open_at bounds n p) g.there ∙ ap (λ ks. record { place = place; slot = slot; known = ks; later = map shape_of_generator (drop (n + 1) gs); pending = p }) e

module _ {A : Type 0} (l : Level) (at : Place) (more : A → Bool) (visit : ℤ → A → Act A) (gs : List Shape) (bounds : List Bound) where
  -- where the same values are left the same is still to be done
  rest_same : (p q : Pending) (ps : List Pending) (x : A) (s : State) → SameLeft p q → rest_of l at more visit (stack_of gs bounds (p ∷ ps)) x s ≡ rest_of l at more visit (stack_of gs bounds (q ∷ ps)) x s
  rest_same p q ps x s (inl e) = ap (λ r. rest_of l at more visit (stack_of gs bounds (r ∷ ps)) x s) e
  rest_same p q ps x s (inr (a, b)) =
      rest_closes l at more visit (open_at bounds (length ps) p (drop (length ps) gs)) (stack_of gs bounds ps) x s (none_pending bounds (length ps) p (drop (length ps) gs) a)
      ∙ sym (rest_closes l at more visit (open_at bounds (length ps) q (drop (length ps) gs)) (stack_of gs bounds ps) x s (none_pending bounds (length ps) q (drop (length ps) gs) b))

  rest_same_below : (d p q : Pending) (ps : List Pending) (x : A) (s : State) → SameLeft p q → rest_of l at more visit (stack_of gs bounds (d ∷ p ∷ ps)) x s ≡ rest_of l at more visit (stack_of gs bounds (d ∷ q ∷ ps)) x s
  unfolding rest_of
  rest_same_below d p q ps x s h =
      let o : Opened = open_at bounds (suc (length ps)) d (drop (suc (length ps)) gs) in
      (λ k. then_do (each_pending more (λ v y. one_value l at more visit o.place (known_at o v) o.later v y) o.pending x s) (λ y t. rest_same p q ps y t h k))

length_rests : (es : List Entered) → length (rests_seen es) ≡ length es
length_rests es = length-reverse (map (λ e. pending_seen e.rest) es) ∙ length-map es (λ e. pending_seen e.rest)

names_push : (es : List Entered) (e : Entered) → names_seen (es ++ e ∷ []) ≡ names_seen es ++ bound_seen e ∷ []
names_push es e = map-append bound_seen es (e ∷ [])

rests_push : (es : List Entered) (e : Entered) → rests_seen (es ++ e ∷ []) ≡ pending_seen e.rest ∷ rests_seen es
rests_push es e = ap reverse (map-append (λ x. pending_seen x.rest) es (e ∷ [])) ∙ reverse-append (map (λ x. pending_seen x.rest) es) (pending_seen e.rest ∷ [])

left_of : {l : Level} {at : Place} {V : Visits} {gs : List Generator} {bounds : List Bound} {ps : List Pending} {s : State} → Remains l at V gs bounds ps s → TuplesLeft l at V.more V.visit shape_of_generator gs bounds ps V.so_far s V.whole
left_of m = record { rest = m.rest; known = m.known; inside = m.inside }

remains_of : {l : Level} {at : Place} {V : Visits} {gs : List Generator} {bounds : List Bound} {ps : List Pending} {s : State} → TuplesLeft l at V.more V.visit shape_of_generator gs bounds ps V.so_far s V.whole → Remains l at V gs bounds ps s
remains_of m = record { rest = m.rest; known = m.known; inside = m.inside }

-- the last generator has no more values, and none is open below it
pub all_close : {l : Level} {at : Place} {V : Visits} {gs : List Generator} {s : State} (below : List Entered) (p : Pending) → below ≡ [] → next_of p ≡ None → Remains l at V gs (names_seen below) (p ∷ rests_seen below) s → V.whole ≡ Went V.so_far s
all_close {l} {at} {V} {gs} {s} below p none e m =
    tuples_end (tuples_close (left_of (subst (λ es. Remains l at V gs (names_seen es) (p ∷ rests_seen es) s) none m)) e)

-- the last generator has no more values, and the one below it goes on
pub one_closes : {l : Level} {at : Place} {V : Visits} {gs : List Generator} {s : State} (below rest : List Entered) (entered : Entered) (p : Pending) → below ≡ rest ++ entered ∷ [] → next_of p ≡ None → Remains l at V gs (names_seen below) (p ∷ rests_seen below) s → Remains l at V gs (names_seen rest) (pending_seen entered.rest ∷ rests_seen rest) s
one_closes {l} {at} {V} {gs} {s} below rest entered p is e m =
    let ks : List Bound = names_seen rest ++ bound_seen entered ∷ [] in
    let n : Remains l at V gs ks (p ∷ pending_seen entered.rest ∷ rests_seen rest) s =
    subst (λ bs. Remains l at V gs bs (p ∷ pending_seen entered.rest ∷ rests_seen rest) s) (ap names_seen is ∙ names_push rest entered)
    (subst (λ ps. Remains l at V gs (names_seen below) (p ∷ ps) s) (ap rests_seen is ∙ rests_push rest entered) m) in
    let kept : take (length ks - 1) ks ≡ names_seen rest = take_at (names_seen rest) (bound_seen entered ∷ []) (length ks - 1) (omega (arith, length_push (names_seen rest) (bound_seen entered))) in
    subst (λ bs. Remains l at V gs bs (pending_seen entered.rest ∷ rests_seen rest) s) kept (remains_of (tuples_close (left_of n) e))

-- a value of the generator on top, by where it stands

-- the generator at the top of a stack
top_stands : (gs : List Generator) (below : List Entered) (g : Generator) → length below < length gs → g ≡ get_or gs (length below) g → IsGenerator shape_of_generator gs (length (rests_seen below)) g.place g.slot (whole (seen g.domain))
top_stands gs below g h is = subst (λ n. IsGenerator shape_of_generator gs n g.place g.slot (whole (seen g.domain))) (sym (length_rests below)) (is_generator shape_of_generator gs (length below) g h is (generator_is g))

next_stands : (gs : List Generator) (below : List Entered) (g : Generator) → length below + 1 < length gs → g ≡ get_or gs (length below + 1) g → IsGenerator shape_of_generator gs (length (rests_seen below) + 1) g.place g.slot (whole (seen g.domain))
next_stands gs below g h is = subst (λ n. IsGenerator shape_of_generator gs (n + 1) g.place g.slot (whole (seen g.domain))) (sym (length_rests below)) (is_generator shape_of_generator gs (length below + 1) g h is (generator_is g))

module _ {l : Level} {at : Place} {V : Visits} {gs : List Generator} {s : State} (below : List Entered) (p : Pending) (v : ℤ) (g : Generator) (h : length below < length gs) (is : g ≡ get_or gs (length below) g) (next : next_of p ≡ Some v) (m : Remains l at V gs (names_seen below) (p ∷ rests_seen below) s) where
  top : steps.Remains l at V.more V.visit (top_at shape_of_generator gs (names_seen below) (length (rests_seen below)) g.place g.slot p ∷ stack_of (map shape_of_generator gs) (names_seen below) (rests_seen below)) V.so_far s V.whole
  top = tuples_top (left_of m) (top_stands gs below g h is)

  -- the last generator: its value makes a tuple
  module _ (last : length below + 1 ≡ length gs) where
    none : map shape_of_generator (drop (length (rests_seen below) + 1) gs) ≡ []
    none = none_later shape_of_generator gs (length (rests_seen below) + 1) (omega (arith, last, length_rests below))

    pub tuple_found : {u : State} (q : Pending) → SameLeft (behind_next p) q → begun at (with_bound (names_seen below) g.slot v) s ≡ Went tt u → Found l at V gs (names_seen below) (q ∷ rests_seen below) v u
    tuple_found {u} q same b =
        let known : length (names_seen below) ≡ length (p ∷ rests_seen below) - 1 = m.known in
        let inside : length (p ∷ rests_seen below) ≤ length gs = m.inside in
        let os : List Opened = stack_of (map shape_of_generator gs) (names_seen below) (rests_seen below) in
        let all : take (length (rests_seen below)) (names_seen below) ≡ names_seen below = take_all (length (rests_seen below)) (names_seen below) (omega arith) in
        let o = top_is gs (names_seen below) (length (rests_seen below)) (behind_next p) (top_stands gs below g h is) all in
        record {
          rest =
              (λ k. then_do (V.visit v V.so_far u) (λ x t. (sym (rest_same l at V.more V.visit (map shape_of_generator gs) (names_seen below) (behind_next p) q (rests_seen below) x t same) ∙ ap (λ w. rest_of l at V.more V.visit (w ∷ os) x t) o) k))
              ∙ steps.visit_is_left v top V.on next none b;
          known = omega arith;
          inside = omega arith;
        }

    pub tuple_ends : (stop : Stop) (t : State) → LevelGoesOn l → Ends stop t (begun at (with_bound (names_seen below) g.slot v) s) → Ends stop t V.whole
    tuple_ends stop t k e = steps.visit_begin_err v top V.on next none _ (ends_passes stop t) k V.goes e

  -- another generator: the next one opens
  module _ (g' : Generator) (h' : length below + 1 < length gs) (is' : g' ≡ get_or gs (length below + 1) g') where
    pub opening_ends : (stop : Stop) (t : State) → LevelGoesOn l → Ends stop t (begun g.place (with_bound (names_seen below) g.slot v) s) → Ends stop t V.whole
    opening_ends stop t k e = steps.open_begin_err v top V.on next (one_later (next_stands gs below g' h' is')) _ (ends_passes stop t) k V.goes e

    pub domain_ends : {u : State} (stop : Stop) (t : State) → LevelGoesOn l → begun g.place (with_bound (names_seen below) g.slot v) s ≡ Went tt u → Ends stop t (value l (whole (seen g'.domain)) u) → Ends stop t V.whole
    domain_ends stop t k b e = steps.open_err v top V.on next (one_later (next_stands gs below g' h' is')) b _ (ends_passes stop t) k V.goes e

    pub next_opens : {u r : State} {d : Value} (q : Pending) → SameLeft (behind_next p) q → begun g.place (with_bound (names_seen below) g.slot v) s ≡ Went tt u → value l (whole (seen g'.domain)) u ≡ Went d r → Remains l at V gs (with_bound (names_seen below) g.slot v) (pending_of d ∷ q ∷ rests_seen below) r
    next_opens {r = r} {d = d} q same b e =
        let n = tuples_next v (left_of m) (top_stands gs below g h is) (next_stands gs below g' h' is') V.on next b e in
        let known : length (with_bound (names_seen below) g.slot v) ≡ length (pending_of d ∷ behind_next p ∷ rests_seen below) - 1 = n.known in
        let inside : length (pending_of d ∷ behind_next p ∷ rests_seen below) ≤ length gs = n.inside in
        record {
          rest = sym (rest_same_below l at V.more V.visit (map shape_of_generator gs) (with_bound (names_seen below) g.slot v) (pending_of d) (behind_next p) q (rests_seen below) V.so_far r same) ∙ n.rest;
          known = omega arith;
          inside = omega arith;
        }

-- where there is no more memory
pub remains_front : {l : Level} {at : Place} {V : Visits} {gs : List Generator} {bounds : List Bound} {ps : List Pending} {s : State} → LevelGoesOn l → Remains l at V gs bounds ps s → IsOnward (left s) (left_by V.whole)
remains_front {V = V} k m = tuples_onward k V.goes (left_of m)

-- one more open generator
pub entered_push : {l : Level} {at : Place} {V : Visits} {gs : List Generator} {s : State} (below more : List Entered) (entered : Entered) (d : Pending) → more ≡ below ++ entered ∷ [] → Remains l at V gs (names_seen below ++ bound_seen entered ∷ []) (d ∷ pending_seen entered.rest ∷ rests_seen below) s → Remains l at V gs (names_seen more) (d ∷ rests_seen more) s
entered_push {l} {at} {V} {gs} {s} below more entered d is m =
    subst (λ es. Remains l at V gs (names_seen es) (d ∷ rests_seen es) s) (sym is)
    (subst (λ bs. Remains l at V gs bs (d ∷ rests_seen (below ++ entered ∷ [])) s) (sym (names_push below entered))
    (subst (λ ps. Remains l at V gs (names_seen below ++ bound_seen entered ∷ []) (d ∷ ps) s) (sym (rests_push below entered)) m))

-- the exits of the steps

pub entering_ends : (l : Level) (at : Place) (V : Visits) (gs : List Generator) (r : Result Bool Stop) (t : Tuples) (v : ℤ) (s : State) (stop : Stop) → IsErrAnd r (λ y. y ≡ stop) → Ends stop s V.whole → Entering l at V gs r t v s
entering_ends l at V gs (Ok b) t v s stop h k = absurd h
entering_ends l at V gs (Err y) t v s stop h k = subst (λ z. Ends z s V.whole) (sym h) k

-- a part that went on left no more fuel
pub went_fuel : {A : Type 0} (m : Act A) {s t : State} {x : A} → GoesOn m → m s ≡ Went x t → t.fuel ≤ s.fuel
went_fuel m {s = s} k e = subst (λ (o : Outcome _). (left_by o).fuel ≤ s.fuel) e (k.from s).fuel

-- an element is what stands where it stands
pub get_or_again : {X : Type 0} (xs : List X) (i : ℕ) (d : X) → i < length xs → get_or xs i d ≡ get_or xs i (get_or xs i d)
get_or_again [] i d h = absurd (omega (arith, h))
get_or_again (x ∷ xs) zero d h = refl
get_or_again (x ∷ xs) (suc i) d h = get_or_again xs i d (omega (arith, h))

pub empty : {X : Type 0} (xs : List X) → length xs ≡ 0 → xs ≡ []
empty [] h = refl
empty (x ∷ xs) h = absurd (omega (arith, h))
