-- The lists of a search stand in the order of lists, so what is found first is the first.
use Rattle.std.proofs.Common.{◌≡◌, refl, sym, subst, ap, ◌∙◌, Vec, ℕ, zero, suc, ◌+◌, ◌<◌, ◌≤◌, Bool, true, false, ◌⊎◌, inl, inr, List, [], ◌∷◌, ◌++◌, map, length, Some, None, arith}
use Rattle.std.specs.Prelude.{filter, if◌then◌else◌}
use Rattle.std.specs.List.{find, range_with_len}
use Rattle.std.specs.declared.alloc.Global.{Global}
use Rattle.std.proofs.lemmas.Option.{none-some, same_Some}
use Rattle.layer_plan.specs.NamedCycle.{IsNoLater}
use Rattle.model_view.specs.Naming.{depends, nexts, behind, all_ways, ways_from}
use Rattle.model_view.proofs.Members.{In, in_map_back, in_filter_back}
use Rattle.model_view.proofs.Chains.{IsWay, way_of, in_ways}

pub no_later_self : (xs : List ℕ) → IsNoLater xs xs
no_later_self [] = tt
no_later_self (x ∷ xs) = inr (refl, no_later_self xs)

-- lists in order

abbrev pub IsSorted : List (List ℕ) → Type 0
IsSorted [] = Unit {0}
IsSorted (way ∷ ways) = ((other : List ℕ) → In other ways → IsNoLater way other) × IsSorted ways

pub sorted_append : (xs ys : List (List ℕ)) → IsSorted xs → IsSorted ys → ((x y : List ℕ) → In x xs → In y ys → IsNoLater x y) → IsSorted (xs ++ ys)
sorted_append [] ys h k cross = k
sorted_append (x ∷ xs) ys h k cross = (λ other at. by_side other (either xs other at), sorted_append xs ys h.1 k (λ a b p q. cross a b (inr p) q)) where
  either : (xs : List (List ℕ)) (other : List ℕ) → In other (xs ++ ys) → In other xs ⊎ In other ys
  either [] other at = inr at
  either (z ∷ zs) other (inl e) = inl (inl e)
  either (z ∷ zs) other (inr at) = onward (either zs other at) where
    onward : In other zs ⊎ In other ys → In other (z ∷ zs) ⊎ In other ys
    onward (inl p) = inl (inr p)
    onward (inr p) = inr p

  by_side : (other : List ℕ) → In other xs ⊎ In other ys → IsNoLater x other
  by_side other (inl p) = h.0 other p
  by_side other (inr p) = cross x other (inl refl) p

sorted_behind : (v : ℕ) (ways : List (List ℕ)) → IsSorted ways → IsSorted (behind v ways)
sorted_behind v [] h = tt
sorted_behind v (way ∷ ways) h = (λ other at. let r = in_map_back (λ w. v ∷ w) ways other at in subst (λ o. IsNoLater (v ∷ way) o) r.2 (inr (refl, h.0 r.0 r.1)), sorted_behind v ways h.1)

-- rising numbers

abbrev pub IsUpward : List ℕ → Type 0
IsUpward [] = Unit {0}
IsUpward (x ∷ xs) = ((y : ℕ) → In y xs → x < y) × IsUpward xs

from_range : (a n x : ℕ) → In x (range_with_len a n) → a ≤ x
from_range a zero x h = absurd h
from_range a (suc n) x (inl e) = omega (arith, e)
from_range a (suc n) x (inr h) = let more = from_range (a + 1) n x h in omega arith

pub upward_range : (a n : ℕ) → IsUpward (range_with_len a n)
upward_range a zero = tt
upward_range a (suc n) = (λ y h. let more = from_range (a + 1) n y h in omega arith, upward_range (a + 1) n)

pub upward_filter : (p : ℕ → Bool) (xs : List ℕ) → IsUpward xs → IsUpward (filter p xs)
upward_filter p [] h = tt
upward_filter p (x ∷ xs) h = by_test (p x) (upward_filter p xs h.1) where
  by_test : (b : Bool) → IsUpward (filter p xs) → IsUpward (if b then x ∷ filter p xs else filter p xs)
  by_test true k = (λ y at. h.0 y (in_filter_back p xs y at).0, k)
  by_test false k = k

-- the lists of a search

sorted_all : (deps : List (Vec ℕ Global)) (n : ℕ) (vs : List ℕ) → IsUpward vs → ((v : ℕ) → IsSorted (ways_from deps n v)) → IsSorted (all_ways (map (ways_from deps n) vs))
sorted_all deps n [] h each = tt
sorted_all deps n (v ∷ vs) h each = sorted_append (ways_from deps n v) (all_ways (map (ways_from deps n) vs)) (each v) (sorted_all deps n vs h.1 each) cross where
  begins : (x y : List ℕ) (w : ℕ) → IsWay deps n v x → IsWay deps n w y → v < w → IsNoLater x y
  begins x y w p q lt = subst (λ z. IsNoLater z y) (sym p.is) (subst (λ z. IsNoLater (v ∷ p.later) z) (sym q.is) (inl lt))

  cross : (x y : List ℕ) → In x (ways_from deps n v) → In y (all_ways (map (ways_from deps n) vs)) → IsNoLater x y
  cross x y p q =
      let some = in_ways _ y q in
      let from = in_map_back (ways_from deps n) vs some.0 some.1 in
      begins x y from.0 (way_of deps n v x p) (way_of deps n from.0 y (subst (λ ways. In y ways) (sym from.2) some.2)) (h.0 from.0 from.1)

pub sorted_ways : (deps : List (Vec ℕ Global)) (n v : ℕ) → IsSorted (ways_from deps n v)
sorted_ways deps zero v = (λ other at. absurd at, tt)
sorted_ways deps (suc n) v =
    sorted_behind v _ (sorted_all deps n (nexts deps v) (upward_filter (depends deps v) _ (upward_range 0 (length deps))) (λ w. sorted_ways deps n w))

-- what is found

pub found_in : (p : List ℕ → Bool) (xs : List (List ℕ)) (x : List ℕ) → find p xs ≡ Some x → In x xs × (p x ≡ true)
found_in p [] x e = absurd (none-some x e)
found_in p (y ∷ ys) x e = by_test (p y) refl e (λ k. found_in p ys x k) where
  by_test : (b : Bool) → p y ≡ b → (if b then Some y else find p ys) ≡ Some x → (find p ys ≡ Some x → In x ys × (p x ≡ true)) → In x (y ∷ ys) × (p x ≡ true)
  by_test true h k rest = (inl (same_Some y x k), sym (ap p (same_Some y x k)) ∙ h)
  by_test false h k rest = (inr (rest k).0, (rest k).1)

pub found_none : (p : List ℕ → Bool) (xs : List (List ℕ)) (x : List ℕ) → find p xs ≡ None → In x xs → p x ≡ true → ⊥
found_none p [] x e at t = at
found_none p (y ∷ ys) x e at t = by_test (p y) refl e at (λ k l. found_none p ys x k l t) where
  by_test : (b : Bool) → p y ≡ b → (if b then Some y else find p ys) ≡ None → (y ≡ x) ⊎ In x ys → (find p ys ≡ None → In x ys → ⊥) → ⊥
  by_test true h k at rest = none-some y (sym k)
  by_test false h k (inl q) rest = (let no : false ≡ true = sym h ∙ ap p q ∙ t in absurd cc)
  by_test false h k (inr q) rest = rest k q

pub found_first : (p : List ℕ → Bool) (xs : List (List ℕ)) (x y : List ℕ) → IsSorted xs → find p xs ≡ Some x → In y xs → p y ≡ true → IsNoLater x y
found_first p [] x y s e at t = absurd at
found_first p (z ∷ zs) x y s e at t = by_test (p z) refl e at (λ k l. found_first p zs x y s.1 k l t) where
  by_test : (b : Bool) → p z ≡ b → (if b then Some z else find p zs) ≡ Some x → (z ≡ y) ⊎ In y zs → (find p zs ≡ Some x → In y zs → IsNoLater x y) → IsNoLater x y
  by_test true h k (inl q) rest = subst (λ w. IsNoLater x w) (sym (same_Some z x k) ∙ q) (no_later_self x)
  by_test true h k (inr q) rest = subst (λ w. IsNoLater w y) (same_Some z x k) (s.0 y q)
  by_test false h k (inl q) rest = (let no : false ≡ true = sym h ∙ ap p q ∙ t in absurd cc)
  by_test false h k (inr q) rest = rest k q
