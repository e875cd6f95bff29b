-- The pairs of a list after it gets a number or changes at a place, and the places of one number.
use Rattle.std.proofs.Common.{◌≡◌, ◌≢◌, ℕ, zero, suc, ◌+◌, ◌<◌, ◌==◌, ℤ, pos, Bool, true, false, not, ◌&&◌, ◌||◌, cond, nat_lt, inl, inr, List, [], ◌∷◌, length, get_or, set, take, map, refl, ap, sym, ◌∙◌, subst, arith}
use Rattle.std.specs.Prelude.{None, filter, slice_get}
use Rattle.std.specs.List.{list_any}
use Rattle.std.specs.BTreeSet.{BTreeSet, contains, keys_between, IsFromIterResult, Updates}
use Rattle.std.specs.BTreeMap.Range.{range_contains}
use Rattle.std.specs.declared.cmp.Ordering.{Ordering}
use Rattle.std.specs.Ordering.{int_cmp, int_eq, nat_cmp, is_eq, is_le, ordering_then}
use Rattle.std.specs.declared.cmp.Ordering.TheVariants.{Less, Equal, Greater}
use Rattle.std.specs.declared.ops.Bound.TheVariants.{Included, Excluded}
use Rattle.std.proofs.lemmas.Bool.{cases_eq, cases_lt}
use Rattle.std.proofs.lemmas.Bool.Decides.{nat_tests}
use Rattle.std.proofs.lemmas.Option.{slice_get_past}
use Rattle.cbl_base.proofs.SetLemmas.{int_eq-itself, int_eq-false}
use Rattle.node_base.specs.NumberChanges.{IsNumberChange, AreNumberChanges, after_number_change, after_number_changes}
use Rattle.node_base.specs.declared.number_change.NumberChange.{NumberChange}
use Rattle.node_base.proofs.ChangeLemmas.{number_within, number_now, number_next}
use Rattle.node_order.specs.PlaceIndex.{is_number, stands_at, pair_cmp, IsIndexOf, ArePlacesOf}

-- ---- whether two places, and two pairs, are equal
pub same_place : (p q : ℕ) → is_eq (nat_cmp p q) ≡ (p == q)
same_place p q = grind (arith, nat_tests)

first_equal : (a b : Ordering) → is_eq (ordering_then a b) ≡ (is_eq a && is_eq b)
first_equal Less b = refl
first_equal Equal b = refl
first_equal Greater b = refl

pub same_pair : (v w : ℤ) (p q : ℕ) → is_eq (pair_cmp (v, p) (w, q)) ≡ (int_eq v w && p == q)
same_pair v w p q = first_equal (int_cmp v w) (nat_cmp p q) ∙ ap (λ b. int_eq v w && b) (same_place p q)

-- ---- one more number
suc_same : (p q : ℕ) → (suc p == suc q) ≡ (p == q)
suc_same p q = grind (arith, nat_tests)

zero_suc : (p : ℕ) → (zero == suc p) ≡ false
zero_suc p = grind (arith, nat_tests)

suc_zero : (p : ℕ) → (suc p == zero) ≡ false
suc_zero p = grind (arith, nat_tests)

or_test : (b : Bool) → cond b true false ≡ b
or_test true = refl
or_test false = refl

and_true : (b : Bool) → (b && true) ≡ b
and_true true = refl
and_true false = refl

and_false : (b : Bool) → (b && false) ≡ false
and_false true = refl
and_false false = refl

pub stands_more : (xs : List ℤ) (i : ℕ) (n v : ℤ) (p : ℕ) → i < length xs → n ≡ get_or xs i (pos 0) → cond (int_eq n v && i == p) true (stands_at (take i xs) v p) ≡ stands_at (take (i + 1) xs) v p
stands_more [] i n v p lt at = absurd (omega (arith, lt))
stands_more (x ∷ xs) zero n v zero lt at = ap (λ b. cond b true false) (and_true (int_eq n v)) ∙ or_test (int_eq n v) ∙ ap (λ z. int_eq z v) at
stands_more (x ∷ xs) zero n v (suc p) lt at = ap (λ b. cond (int_eq n v && b) true false) (zero_suc p) ∙ ap (λ b. cond b true false) (and_false (int_eq n v))
stands_more (x ∷ xs) (suc i) n v zero lt at =
    let step : suc i + 1 ≡ suc (i + 1) = omega arith in
    rw step (ap (λ b. cond (int_eq n v && b) true (int_eq x v)) (suc_zero i) ∙ ap (λ b. cond b true (int_eq x v)) (and_false (int_eq n v)))
stands_more (x ∷ xs) (suc i) n v (suc p) lt at =
    let step : suc i + 1 ≡ suc (i + 1) = omega arith in
    rw step (ap (λ b. cond (int_eq n v && b) true (stands_at (take i xs) v p)) (suc_same i p) ∙ stands_more xs i n v p (omega (arith, lt)) at)

-- ---- a change at a place
pub stands_set : (xs : List ℤ) (place : ℕ) (n v : ℤ) (p : ℕ) → place < length xs → cond (place == p) (int_eq n v) (stands_at xs v p) ≡ stands_at (set xs place n) v p
stands_set [] place n v p lt = absurd (omega (arith, lt))
stands_set (x ∷ xs) zero n v zero lt = refl
stands_set (x ∷ xs) zero n v (suc p) lt = ap (λ b. cond b (int_eq n v) (stands_at xs v p)) (zero_suc p)
stands_set (x ∷ xs) (suc place) n v zero lt = ap (λ b. cond b (int_eq n v) (int_eq x v)) (suc_zero place)
stands_set (x ∷ xs) (suc place) n v (suc p) lt = ap (λ b. cond b (int_eq n v) (stands_at xs v p)) (suc_same place p) ∙ stands_set xs place n v p (omega (arith, lt))

-- ---- the pairs after one was taken out and another put in
module _ (old mid new : BTreeSet (ℤ × ℕ)) where
  pub put_in : (k : ℤ × ℕ) (v : ℤ) (p : ℕ) → Updates pair_cmp old new k true → contains pair_cmp new (v, p) ≡ cond (int_eq k.0 v && k.1 == p) true (contains pair_cmp old (v, p))
  put_in k v p by = by.0 (v, p) ∙ ap (λ b. cond b true (contains pair_cmp old (v, p))) (same_pair k.0 v k.1 p)

  pub taken_out : (k : ℤ × ℕ) (v : ℤ) (p : ℕ) → Updates pair_cmp old mid k false → contains pair_cmp mid (v, p) ≡ cond (int_eq k.0 v && k.1 == p) false (contains pair_cmp old (v, p))
  taken_out k v p by = by.0 (v, p) ∙ ap (λ b. cond b false (contains pair_cmp old (v, p))) (same_pair k.0 v k.1 p)

pub index_none : (index : BTreeSet (ℤ × ℕ)) → index.keys ≡ [] → IsIndexOf index []
index_none index none v p = ap (λ t. list_any (λ q. is_eq (pair_cmp (v, p) q)) t) none

pub index_more : (old new : BTreeSet (ℤ × ℕ)) (xs : List ℤ) (i : ℕ) (n : ℤ) → Updates pair_cmp old new (n, i) true → IsIndexOf old (take i xs) → i < length xs → n ≡ get_or xs i (pos 0) → IsIndexOf new (take (i + 1) xs)
index_more old new xs i n by is lt at v p =
    put_in old old new (n, i) v p by ∙ ap (λ b. cond (int_eq n v && i == p) true b) (is v p) ∙ stands_more xs i n v p lt at

pub index_moved : (old mid new : BTreeSet (ℤ × ℕ)) (xs : List ℤ) (c : NumberChange) → Updates pair_cmp old mid (c.old, c.place) false → Updates pair_cmp mid new (c.new, c.place) true
    → IsIndexOf old xs → IsNumberChange xs c → IsIndexOf new (after_number_change xs c)
index_moved old mid new xs c out into is change v p =
    put_in mid mid new (c.new, c.place) v p into ∙ ap (λ b. cond (int_eq c.new v && c.place == p) true b) (taken_out old mid mid (c.old, c.place) v p out ∙ ap (λ b. cond (int_eq c.old v && c.place == p) false b) (is v p))
    ∙ at ∙ stands_set xs c.place c.new v p (number_within xs c change)
  where
    at : cond (int_eq c.new v && c.place == p) true (cond (int_eq c.old v && c.place == p) false (stands_at xs v p)) ≡ cond (c.place == p) (int_eq c.new v) (stands_at xs v p)
    at = elim (cases_eq c.place p) [
      | inl e ↦
          let here : (c.place == p) ≡ true = grind (arith, nat_tests, e) in
          let old_here : stands_at xs v p ≡ int_eq c.old v = ap (λ q. stands_at xs v q) (sym e) ∙ ap (λ o. is_number o v) change in
          rw (here, old_here) (two (int_eq c.new v) (int_eq c.old v))
      | inr e ↦
          let there : (c.place == p) ≡ false = grind (arith, nat_tests, e) in
          rw there (none (int_eq c.new v) (int_eq c.old v) (stands_at xs v p))
    ]
      where
        two : (a b : Bool) → cond (a && true) true (cond (b && true) false b) ≡ a
        two true b = refl
        two false true = refl
        two false false = refl

        none : (a b s : Bool) → cond (a && false) true (cond (b && false) false s) ≡ s
        none true true s = refl
        none true false s = refl
        none false true s = refl
        none false false s = refl

-- ---- the places after one was put in or taken out
place_in : (old new : BTreeSet ℕ) (xs : List ℤ) (number : ℤ) (c : NumberChange) (b : Bool) → Updates nat_cmp old new c.place b → b ≡ int_eq c.new number → ArePlacesOf number xs old → IsNumberChange xs c
    → ArePlacesOf number (after_number_change xs c) new
place_in old new xs number c b by is are change p =
    by.0 p ∙ ap (λ t. cond t b (contains nat_cmp old p)) (same_place c.place p) ∙ ap (λ t. cond (c.place == p) t (contains nat_cmp old p)) is ∙ ap (λ t. cond (c.place == p) (int_eq c.new number) t) (are p)
    ∙ stands_set xs c.place c.new number p (number_within xs c change)

module _ (old new : BTreeSet ℕ) (xs : List ℤ) (cs : List NumberChange) (i : ℕ) (d : NumberChange) (number : ℤ) (are : AreNumberChanges xs cs) (lt : i < length cs) where
  places_turn : (b : Bool) → Updates nat_cmp old new (get_or cs i d).place b → b ≡ int_eq (get_or cs i d).new number → ArePlacesOf number (after_number_changes xs (take i cs)) old
      → ArePlacesOf number (after_number_changes xs (take (i + 1) cs)) new
  places_turn b by is held =
      subst (λ t. ArePlacesOf number t new) (sym (number_next xs cs i d are lt)) (place_in old new (after_number_changes xs (take i cs)) number (get_or cs i d) b by is held (number_now xs cs i d are lt))

  pub places_with : Updates nat_cmp old new (get_or cs i d).place true → (get_or cs i d).new ≡ number → ArePlacesOf number (after_number_changes xs (take i cs)) old → ArePlacesOf number (after_number_changes xs (take (i + 1) cs)) new
  places_with by is held = places_turn true by (sym (subst (λ z. int_eq (get_or cs i d).new z ≡ true) is (int_eq-itself (get_or cs i d).new))) held

  pub places_without : Updates nat_cmp old new (get_or cs i d).place false → (get_or cs i d).new ≢ number → ArePlacesOf number (after_number_changes xs (take i cs)) old → ArePlacesOf number (after_number_changes xs (take (i + 1) cs)) new
  places_without by is held = places_turn false by (sym (int_eq-false (get_or cs i d).new number is)) held

-- ---- the places of the pairs between two
-- the pairs from (number, 0) on, and below (number, most)
between_at : (most : ℕ) (number w : ℤ) (p r : ℕ) → (range_contains pair_cmp (Included (number, 0)) (Excluded (number, most)) (w, r) && is_eq (nat_cmp p r)) ≡ (is_eq (pair_cmp (number, p) (w, r)) && nat_lt p most)
between_at most number w p r = by (int_cmp number w)
  where
    by : (o : Ordering) → ((is_le (ordering_then o (nat_cmp 0 r)) && not (is_le (ordering_then o (nat_cmp most r)))) && is_eq (nat_cmp p r)) ≡ (is_eq (ordering_then o (nat_cmp p r)) && nat_lt p most)
    by Less = refl
    by Equal = grind (arith, nat_tests)
    by Greater = refl

any_between : (most : ℕ) (number : ℤ) (p : ℕ) (ks : List (ℤ × ℕ)) → list_any (λ q. is_eq (nat_cmp p q)) (map (λ pair. pair.1) (filter (range_contains pair_cmp (Included (number, 0)) (Excluded (number, most))) ks)) ≡ (list_any (λ q. is_eq (pair_cmp (number, p) q)) ks && nat_lt p most)
any_between most number p [] = refl
any_between most number p (k ∷ ks) =
    let passes = range_contains pair_cmp (Included (number, 0)) (Excluded (number, most)) in
    let rest = list_any (λ q. is_eq (nat_cmp p q)) (map (λ pair. pair.1) (filter passes ks)) in
    first (passes k) k (filter passes ks) ∙ ap (λ t. (passes k && is_eq (nat_cmp p k.1)) || t) (any_between most number p ks) ∙ ap (λ t. t || (list_any (λ q. is_eq (pair_cmp (number, p) q)) ks && nat_lt p most)) (between_at most number k.0 p k.1)
    ∙ spread (is_eq (pair_cmp (number, p) k)) (list_any (λ q. is_eq (pair_cmp (number, p) q)) ks) (nat_lt p most)
  where
    first : (b : Bool) (k : ℤ × ℕ) (fs : List (ℤ × ℕ)) → list_any (λ q. is_eq (nat_cmp p q)) (map (λ pair. pair.1) (cond b (k ∷ fs) fs)) ≡ ((b && is_eq (nat_cmp p k.1)) || list_any (λ q. is_eq (nat_cmp p q)) (map (λ pair. pair.1) fs))
    first true k fs = refl
    first false k fs = refl

    spread : (a b c : Bool) → ((a && c) || (b && c)) ≡ ((a || b) && c)
    spread true true c = grind arith
    spread true false true = refl
    spread true false false = refl
    spread false b c = refl

pub places_between : (most : ℕ) (index : BTreeSet (ℤ × ℕ)) (places : BTreeSet ℕ) (number : ℤ) (xs : List ℤ) → IsFromIterResult nat_cmp (map (λ pair. pair.1) (keys_between pair_cmp (Included (number, 0)) (Excluded (number, most)) index)) places
    → length xs < most → IsIndexOf index xs → ArePlacesOf number xs places
places_between most index places number xs made short is p =
    made.0 p ∙ any_between most number p index.keys ∙ ap (λ b. b && nat_lt p most) (is number p) ∙ inside
  where
    inside : (stands_at xs number p && nat_lt p most) ≡ stands_at xs number p
    inside = elim (cases_lt p most) [
      | inl lt ↦ let e : nat_lt p most ≡ true = grind (arith, nat_tests, lt) in rw e (and_true (stands_at xs number p))
      | inr ge ↦
          let out : slice_get xs p ≡ None = slice_get_past xs p (omega (arith, ge, short)) in
          let no : stands_at xs number p ≡ false = ap (λ o. is_number o number) out in
          rw no refl
    ]
