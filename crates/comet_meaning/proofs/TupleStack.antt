-- A loop over tuples keeps one list of names, and a stack of the values that the open generators have left.
use Rattle.std.proofs.Common.{◌≡◌, refl, sym, ap, ◌∙◌, ℕ, ◌+◌, ◌-◌, ◌<◌, ◌≤◌, ℤ, Bool, true, false, List, [], ◌∷◌, map, length, take, drop, get_or, Some, None, arith}
use Rattle.std.proofs.lemmas.List.{at_drop_more, drop_all, drop-map, take_all, take-take, take_at, take-append-le, length-take-le, length_push}
use Rattle.cbl_base.specs.declared.place.Place.{Place}
use Rattle.checked_tree.specs.declared.expressions.Slot.{Slot}
use Rattle.checked_tree.specs.Shape as shapes
use Rattle.checked_tree.specs.Shape.{Shape}
use Rattle.comet_meaning.specs.Values.{Value}
use Rattle.comet_meaning.specs.State.{State, left}
use Rattle.comet_meaning.specs.Outcome.{Outcome, Went, Act}
use Rattle.comet_meaning.specs.Levels.{Level}
use Rattle.comet_meaning.specs.Parts.{value}
use Rattle.comet_meaning.specs.Generators.{Bound, with_bound, each_tuple}
use Rattle.comet_meaning.specs.Odometer.{Pending, pending_of, next_of, behind_next, Opened, begun, rest_of, open_at, stack_of}
use Rattle.comet_meaning.specs.Onward.{IsOnward, left_by, GoesOn}
use Rattle.comet_meaning.proofs.GoingParts.{LevelGoesOn}
use Rattle.comet_meaning.proofs.Tuples.{tuples_of_none}
use Rattle.comet_meaning.proofs.TupleSteps as steps
use Rattle.comet_meaning.proofs.TupleSteps.{Remains}

-- a generator, where it stands

pub record IsGenerator {X : Type 0} (f : X → Shape) (xs : List X) (n : ℕ) (place : Place) (slot : Slot) (domain : Shape) : Type 0 where
  pub inside : n < length xs
  pub there : drop n (map f xs) ≡ shapes.generator place slot domain ∷ map f (drop (n + 1) xs)

pub is_generator : {X : Type 0} (f : X → Shape) (xs : List X) (n : ℕ) (x : X) {place : Place} {slot : Slot} {domain : Shape} → n < length xs → x ≡ get_or xs n x → f x ≡ shapes.generator place slot domain → IsGenerator f xs n place slot domain
is_generator f xs n x h is e = record {
  inside = h;
  there = drop-map f n xs ∙ at_drop_more (map f) xs n x h ∙ ap (λ y. f y ∷ map f (drop (n + 1) xs)) (sym is) ∙ ap (λ g. g ∷ map f (drop (n + 1) xs)) e;
}

-- what stands behind a generator: none, or another one

pub none_later : {X : Type 0} (f : X → Shape) (xs : List X) (n : ℕ) → length xs ≡ n → map f (drop n xs) ≡ []
none_later f xs n h = ap (map f) (drop_all n xs (omega arith))

pub one_later : {X : Type 0} {f : X → Shape} {xs : List X} {n : ℕ} {place : Place} {slot : Slot} {domain : Shape} → IsGenerator f xs n place slot domain → map f (drop n xs) ≡ shapes.generator place slot domain ∷ map f (drop (n + 1) xs)
one_later {f = f} {xs = xs} {n = n} g = sym (drop-map f n xs) ∙ g.there

none_pending : (bounds : List Bound) (n : ℕ) (p : Pending) (hs : List Shape) → next_of p ≡ None → next_of (open_at bounds n p hs).pending ≡ None
none_pending bounds n p (shapes.generator place slot domain ∷ hs) e = e
none_pending bounds n p hs e = refl

-- the names that the generators below know stand before
stack_same : (gs : List Shape) (bs cs : List Bound) (ps : List Pending) → take (length ps - 1) bs ≡ take (length ps - 1) cs → stack_of gs bs ps ≡ stack_of gs cs ps
stack_same gs bs cs [] e = refl
stack_same gs bs cs (p ∷ ps) e =
    let on : length (p ∷ ps) - 1 ≡ length ps = omega arith in
    let same : take (length ps) bs ≡ take (length ps) cs = sym (ap (λ n. take n bs) on) ∙ e ∙ ap (λ n. take n cs) on in
    λ k. open_same (drop (length ps) gs) same k ∷ stack_same gs bs cs ps (sym (take-take (length ps - 1) (length ps) bs (omega arith)) ∙ ap (take (length ps - 1)) same ∙ take-take (length ps - 1) (length ps) cs (omega arith)) k
  where
    open_same : (hs : List Shape) → take (length ps) bs ≡ take (length ps) cs → open_at bs (length ps) p hs ≡ open_at cs (length ps) p hs
    open_same (shapes.generator place slot domain ∷ hs) e = ap (λ known. record { place = place; slot = slot; known = known; later = hs; pending = p }) e
    open_same hs e = refl

-- the generator on top, with the names that it knows
abbrev pub top_at : {X : Type 0} → (X → Shape) → List X → List Bound → ℕ → Place → Slot → Pending → Opened
top_at f xs known n place slot p = record { place = place; slot = slot; known = known; later = map f (drop (n + 1) xs); pending = p }

top_is : {X : Type 0} (f : X → Shape) (xs : List X) (bounds known : List Bound) (n : ℕ) (p : Pending) {place : Place} {slot : Slot} {domain : Shape} → IsGenerator f xs n place slot domain → take n bounds ≡ known → open_at bounds n p (drop n (map f xs)) ≡ top_at f xs known n place slot p
top_is f xs bounds known n p {place} {slot} g e =
    ap (open_at bounds n p) g.there ∙ ap (λ ks. record { place = place; slot = slot; known = ks; later = map f (drop (n + 1) xs); pending = p }) e

-- What is still to be done from here is the whole. Each generator but the last open one has a value, so one name fewer
-- is known than generators are open.
pub record TuplesLeft {A X : Type 0} (l : Level) (at : Place) (more : A → Bool) (visit : ℤ → A → Act A) (f : X → Shape) (xs : List X) (bounds : List Bound) (ps : List Pending) (x : A) (s : State) (w : Outcome A) : Type 0 where
  pub rest : rest_of l at more visit (stack_of (map f xs) bounds ps) x s ≡ w
  pub known : length bounds ≡ length ps - 1
  pub inside : length ps ≤ length xs

module _ {A X : Type 0} (l : Level) (at : Place) (more : A → Bool) (visit : ℤ → A → Act A) (f : X → Shape) (xs : List X) (x : A) (s : State) where
  -- without generators nothing is done
  pub tuples_none : (gs : List Shape) → gs ≡ map f xs → length xs ≡ 0 → each_tuple l at more visit [] gs x s ≡ Went x s
  tuples_none gs e h = ap (λ hs. each_tuple l at more visit [] hs x s) (e ∙ none_later f xs 0 h) ∙ tuples_of_none l at more visit [] x s

  -- the first generator's domain gave a value
  pub tuples_open : (gs : List Shape) {place : Place} {slot : Slot} {domain : Shape} {d : Value} {t : State} → gs ≡ map f xs → IsGenerator f xs 0 place slot domain → value l domain s ≡ Went d t → TuplesLeft l at more visit f xs [] (pending_of d ∷ []) x t (each_tuple l at more visit [] gs x s)
  tuples_open gs {place} {slot} {domain} {d} {t} e g v = record {
    rest =
        ap (λ o. rest_of l at more visit (o ∷ []) x t) (top_is f xs [] [] 0 (pending_of d) g refl)
        ∙ (steps.starts l at more visit [] place slot domain (map f (drop 1 xs)) x s v).rest
        ∙ ap (λ hs. each_tuple l at more visit [] hs x s) (sym (e ∙ g.there));
    known = refl;
    inside = let h : 0 < length xs = g.inside in omega arith;
  }

module _ {A X : Type 0} {l : Level} {at : Place} {more : A → Bool} {visit : ℤ → A → Act A} {f : X → Shape} {xs : List X} {bounds : List Bound} {x : A} {s : State} {w : Outcome A} where
  -- all are closed
  pub tuples_end : TuplesLeft l at more visit f xs bounds [] x s w → w ≡ Went x s
  tuples_end m = steps.all_closed (record { rest = m.rest })

  -- what was made doesn't go on
  pub tuples_over : {ps : List Pending} → TuplesLeft l at more visit f xs bounds ps x s w → more x ≡ false → w ≡ Went x s
  tuples_over m e = steps.is_over (record { rest = m.rest }) e

  -- where there is no more memory, what is left goes onward
  pub tuples_onward : {ps : List Pending} → LevelGoesOn l → ((v : ℤ) (y : A) → GoesOn (visit v y)) → TuplesLeft l at more visit f xs bounds ps x s w → IsOnward (left s) (left_by w)
  tuples_onward k goes m = steps.remains_onward k goes (record { rest = m.rest })

  -- the last generator has no more values, and the one before it gets the next
  pub tuples_close : {p : Pending} {ps : List Pending} → TuplesLeft l at more visit f xs bounds (p ∷ ps) x s w → next_of p ≡ None → TuplesLeft l at more visit f xs (take (length bounds - 1) bounds) ps x s w
  tuples_close {p} {ps} m e =
      let known : length bounds ≡ length (p ∷ ps) - 1 = m.known in
      let inside : length (p ∷ ps) ≤ length xs = m.inside in
      let closed : Remains l at more visit (stack_of (map f xs) bounds ps) x s w = steps.closes (record { rest = m.rest }) (none_pending bounds (length ps) p (drop (length ps) (map f xs)) e) in
      record {
        rest =
            ap (λ os. rest_of l at more visit os x s) (stack_same (map f xs) (take (length bounds - 1) bounds) bounds ps (take-take (length ps - 1) (length bounds - 1) bounds (omega arith)))
            ∙ closed.rest;
        known = omega (arith, length-take-le (length bounds - 1) bounds (omega arith));
        inside = omega arith;
      }

  -- the generator on top knows all names that are told
  pub tuples_top : {p : Pending} {ps : List Pending} {place : Place} {slot : Slot} {domain : Shape} → TuplesLeft l at more visit f xs bounds (p ∷ ps) x s w → IsGenerator f xs (length ps) place slot domain → Remains l at more visit (top_at f xs bounds (length ps) place slot p ∷ stack_of (map f xs) bounds ps) x s w
  tuples_top {p} {ps} m g =
      let known : length bounds ≡ length (p ∷ ps) - 1 = m.known in
      record { rest = ap (λ o. rest_of l at more visit (o ∷ stack_of (map f xs) bounds ps) x s) (sym (top_is f xs bounds bounds (length ps) p g (take_all (length ps) bounds (omega arith)))) ∙ m.rest }

  -- a tuple was visited
  pub tuples_visit : {p : Pending} {ps : List Pending} {place : Place} {slot : Slot} {domain : Shape} {u r : State} {y : A} (v : ℤ) → TuplesLeft l at more visit f xs bounds (p ∷ ps) x s w → IsGenerator f xs (length ps) place slot domain → length xs ≡ length ps + 1 → more x ≡ true → next_of p ≡ Some v → begun at (with_bound bounds slot v) s ≡ Went tt u → visit v x u ≡ Went y r → TuplesLeft l at more visit f xs bounds (behind_next p ∷ ps) y r w
  tuples_visit {p} {ps} {r = r} {y = y} v m g last on next b e =
      let known : length bounds ≡ length (p ∷ ps) - 1 = m.known in
      let inside : length (p ∷ ps) ≤ length xs = m.inside in
      record {
        rest =
            ap (λ o. rest_of l at more visit (o ∷ stack_of (map f xs) bounds ps) y r) (top_is f xs bounds bounds (length ps) (behind_next p) g (take_all (length ps) bounds (omega arith)))
            ∙ (steps.visits v (tuples_top m g) on next (none_later f xs (length ps + 1) last) b e).rest;
        known = omega arith;
        inside = omega arith;
      }

  -- the next generator's domain gave a value
  pub tuples_next : {p : Pending} {ps : List Pending} {place place' : Place} {slot slot' : Slot} {domain domain' : Shape} {u r : State} {d : Value} (v : ℤ) → TuplesLeft l at more visit f xs bounds (p ∷ ps) x s w → IsGenerator f xs (length ps) place slot domain → IsGenerator f xs (length ps + 1) place' slot' domain' → more x ≡ true → next_of p ≡ Some v → begun place (with_bound bounds slot v) s ≡ Went tt u → value l domain' u ≡ Went d r → TuplesLeft l at more visit f xs (with_bound bounds slot v) (pending_of d ∷ behind_next p ∷ ps) x r w
  tuples_next {p} {ps} {slot = slot} {r = r} {d = d} v m g g' on next b e =
      let known : length bounds ≡ length (p ∷ ps) - 1 = m.known in
      let more_known : length (with_bound bounds slot v) ≡ length bounds + 1 = length_push bounds _ in
      let inside : length ps + 1 < length xs = g'.inside in
      let up : length (behind_next p ∷ ps) ≡ length ps + 1 = omega arith in
      let top = ap (λ n. open_at (with_bound bounds slot v) n (pending_of d) (drop n (map f xs))) up ∙ top_is f xs (with_bound bounds slot v) (with_bound bounds slot v) (length ps + 1) (pending_of d) g' (take_all (length ps + 1) (with_bound bounds slot v) (omega arith)) in
      let second = top_is f xs (with_bound bounds slot v) bounds (length ps) (behind_next p) g (take_at bounds _ (length ps) (omega arith)) in
      let below = stack_same (map f xs) (with_bound bounds slot v) bounds ps (take-append-le (length ps - 1) bounds _ (omega arith)) in
      record {
        rest =
            ap (λ os. rest_of l at more visit os x r) (λ k. top k ∷ second k ∷ below k)
            ∙ (steps.opens v (tuples_top m g) on next (one_later g') b e).rest;
        known = omega arith;
        inside = omega arith;
      }
