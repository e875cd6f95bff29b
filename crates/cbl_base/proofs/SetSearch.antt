-- What a binary search and a sort find in a set.
use Rattle.std.proofs.Common.{◌≡◌, ℕ, zero, suc, ◌+◌, ◌<◌, ◌≤◌, ℤ, ◌<ℤ◌, Bool, true, false, ◌||◌, inl, inr, List, [], ◌∷◌, ◌++◌, length, get_or, take, drop, refl, ap, sym, ◌∙◌, subst, arith}
use Rattle.std.specs.Prelude.{filter, int_lt, Result, Ok, Err, is_ok, IfOk, IfErr}
use Rattle.std.specs.Ordering.{int_eq, int_cmp, is_lt}
use Rattle.std.specs.List.{insert, remove, dedup, dedup_from, AllByRecursion}
use Rattle.std.specs.List.Sorted.{IsPermutation, IsSorted, IsBinarySearchResult, IsSearchInRange, IsStrictlySortedBy}
use Rattle.std.specs.declared.cmp.Ordering.TheVariants.{Less, Equal, Greater}
use Rattle.std.proofs.lemmas.Int.{ints}
use Rattle.std.proofs.lemmas.Bool.{cases_Bool, cases_lt, cases_order, cond-true, cond-false}
use Rattle.std.proofs.lemmas.Bool.Decides.{Decides-int_eq}
use Rattle.std.proofs.lemmas.Cmp.{int_cmp_total}
use Rattle.std.proofs.lemmas.List.Sorted.{searchable_from_sorted, list_any-IsPermutation}
use Rattle.std.proofs.lemmas.List.Kept.{IsStrictlySortedBy-dedup}
use Rattle.std.proofs.lemmas.List.Folds.{list_any_none, list_any_at}
use Rattle.cbl_base.specs.Sets.{IsBelowAll, IsRising, is_member, below, above, with_member, without_member, set_of}
use Rattle.cbl_base.proofs.SetLemmas.{int_lt-true, int_lt-false, int_eq-true, int_eq-false, same_set, rising-with, rising-without, rising-set_of, is_member-set_of}

-- ---- a filter of a list whose front passes and whose rest fails, or the other way round
front_passes : (p : ℤ → Bool) (xs : List ℤ) (i : ℕ) → ((k : ℕ) (d : ℤ) → k < i → k < length xs → p (get_or xs k d) ≡ true) → ((k : ℕ) (d : ℤ) → i ≤ k → k < length xs → p (get_or xs k d) ≡ false) → filter p xs ≡ take i xs
front_passes p [] zero passes fails = refl
front_passes p [] (suc i) passes fails = refl
front_passes p (x ∷ xs) zero passes fails =
    cond-false (p x) _ _ (fails 0 x (omega arith) (omega arith)) ∙ front_passes p xs 0 (λ k d lt _. absurd (omega arith)) (λ k d _ lt. fails (suc k) d (omega arith) (omega arith))
front_passes p (x ∷ xs) (suc i) passes fails =
    cond-true (p x) _ _ (passes 0 x (omega arith) (omega arith)) ∙ ap (λ t. x ∷ t) (front_passes p xs i (λ k d lt in'. passes (suc k) d (omega arith) (omega arith)) (λ k d le in'. fails (suc k) d (omega arith) (omega arith)))

rest_passes : (p : ℤ → Bool) (xs : List ℤ) (i : ℕ) → ((k : ℕ) (d : ℤ) → k < i → k < length xs → p (get_or xs k d) ≡ false) → ((k : ℕ) (d : ℤ) → i ≤ k → k < length xs → p (get_or xs k d) ≡ true) → filter p xs ≡ drop i xs
rest_passes p [] zero fails passes = refl
rest_passes p [] (suc i) fails passes = refl
rest_passes p (x ∷ xs) zero fails passes =
    cond-true (p x) _ _ (passes 0 x (omega arith) (omega arith)) ∙ ap (λ t. x ∷ t) (rest_passes p xs 0 (λ k d lt _. absurd (omega arith)) (λ k d _ lt. passes (suc k) d (omega arith) (omega arith)))
rest_passes p (x ∷ xs) (suc i) fails passes =
    cond-false (p x) _ _ (fails 0 x (omega arith) (omega arith)) ∙ rest_passes p xs i (λ k d lt in'. fails (suc k) d (omega arith) (omega arith)) (λ k d le in'. passes (suc k) d (omega arith) (omega arith))

-- ---- places of a rising list
below_all-at : (v : ℤ) (xs : List ℤ) (k : ℕ) (d : ℤ) → IsBelowAll v xs → k < length xs → v <ℤ get_or xs k d
below_all-at v [] k d h lt = absurd (omega arith)
below_all-at v (x ∷ xs) zero d h lt = h.0
below_all-at v (x ∷ xs) (suc k) d h lt = below_all-at v xs k d h.1 (omega arith)

pub rising-at : (xs : List ℤ) (i j : ℕ) (d : ℤ) → IsRising xs → i < j → j < length xs → get_or xs i d <ℤ get_or xs j d
rising-at [] i j d up lt in' = absurd (omega arith)
rising-at (x ∷ xs) i zero d up lt in' = absurd (omega arith)
rising-at (x ∷ xs) zero (suc j) d up lt in' = below_all-at x xs j d up.0 (omega arith)
rising-at (x ∷ xs) (suc i) (suc j) d up lt in' = rising-at xs i j d up.1 (omega arith) (omega arith)

int_lt-not : (a b : ℤ) → a <ℤ b → int_lt b a ≡ false
int_lt-not a b lt = grind (arith, ints)

not_less : (a b : ℤ) → a <ℤ b → is_lt (int_cmp b a) ≡ false
not_less a b lt = grind (arith, ints)

pub cmp-less : (a b : ℤ) → int_cmp a b ≡ Less → a <ℤ b
cmp-less a b e = grind (arith, ints)

pub cmp-greater : (a b : ℤ) → int_cmp a b ≡ Greater → b <ℤ a
cmp-greater a b e = grind (arith, ints)

pub cmp-equal : (a b : ℤ) → int_cmp a b ≡ Equal → a ≡ b
cmp-equal a b e = int_eq-true a b (grind (arith, ints))

-- ---- what the search answers: the place of a member, or the place between what is below it and what is above it
pub data Searched (v : ℤ) (xs : List ℤ) : Result ℕ ℕ → Type 0 where
  found : {i : ℕ} → i < length xs → is_member v xs ≡ true → below v xs ≡ take i xs → above v xs ≡ drop (suc i) xs → Searched v xs (Ok i)
  absent : {i : ℕ} → i ≤ length xs → is_member v xs ≡ false → below v xs ≡ take i xs → above v xs ≡ drop i xs → Searched v xs (Err i)

searched-found : (v : ℤ) (xs : List ℤ) (i : ℕ) → IsRising xs → i < length xs → ((d : ℤ) → get_or xs i d ≡ v) → Searched v xs (Ok i)
searched-found v xs i up lt at =
    found lt (list_any_at (λ x. int_eq x v) xs i v lt ((Decides-int_eq _ _).1 (at v)))
    (front_passes (λ x. int_lt x v) xs i (λ k d klt in'. int_lt-true _ _ (lower k d klt)) (λ k d le in'. int_lt-false _ _ (not_lower k d le in')))
    (rest_passes (λ x. int_lt v x) xs (suc i) (λ k d klt in'. int_lt-false _ _ (not_higher k d (omega arith) in')) (λ k d le in'. int_lt-true _ _ (higher k d (omega arith) in')))
  where
    lower : (k : ℕ) (d : ℤ) → k < i → get_or xs k d <ℤ v
    lower k d klt = omega (arith, ints, rising-at xs k i d up klt lt, at d)

    higher : (k : ℕ) (d : ℤ) → i < k → k < length xs → v <ℤ get_or xs k d
    higher k d klt in' = omega (arith, ints, rising-at xs i k d up klt in', at d)

    not_lower : (k : ℕ) (d : ℤ) → i ≤ k → k < length xs → get_or xs k d <ℤ v → ⊥
    not_lower k d le in' h =
        elim (cases_order i k) [
          | inl e ↦ let same : get_or xs k d ≡ v = subst (λ j. get_or xs j d ≡ v) e (at d) in omega (arith, ints, same, h)
          | inr (inl klt) ↦ omega (arith, ints, higher k d klt in', h)
          | inr (inr gt) ↦ omega arith
        ]

    not_higher : (k : ℕ) (d : ℤ) → k ≤ i → k < length xs → v <ℤ get_or xs k d → ⊥
    not_higher k d le in' h =
        elim (cases_order i k) [
          | inl e ↦ let same : get_or xs k d ≡ v = subst (λ j. get_or xs j d ≡ v) e (at d) in omega (arith, ints, same, h)
          | inr (inl klt) ↦ omega arith
          | inr (inr gt) ↦ omega (arith, ints, lower k d gt, h)
        ]

searched-absent : (v : ℤ) (xs : List ℤ) (i : ℕ) → i ≤ length xs → ((k : ℕ) (d : ℤ) → k < i → get_or xs k d <ℤ v) → ((k : ℕ) (d : ℤ) → i ≤ k → k < length xs → v <ℤ get_or xs k d) → Searched v xs (Err i)
searched-absent v xs i within lower higher =
    absent within (list_any_none (λ x. int_eq x v) xs (λ k d in'. int_eq-false _ _ (differs k d in')))
    (front_passes (λ x. int_lt x v) xs i (λ k d klt in'. int_lt-true _ _ (lower k d klt)) (λ k d le in'. int_lt-not _ _ (higher k d le in')))
    (rest_passes (λ x. int_lt v x) xs i (λ k d klt in'. int_lt-not _ _ (lower k d klt)) (λ k d le in'. int_lt-true _ _ (higher k d le in')))
  where
    differs : (k : ℕ) (d : ℤ) → k < length xs → get_or xs k d ≡ v → ⊥
    differs k d in' e =
        elim (cases_lt k i) [
          | inl klt ↦ omega (arith, ints, lower k d klt, e)
          | inr le ↦ omega (arith, ints, higher k d le in', e)
        ]

-- a rising list is one that a binary search may be made in
rising-sorted : (xs : List ℤ) → IsRising xs → IsSorted int_cmp xs
rising-sorted xs up k d low lt = not_less _ _ (rising-at xs k (k + 1) d up (omega arith) lt)

pub searched : (v : ℤ) (xs : List ℤ) (r : Result ℕ ℕ) → IsRising xs → IsSearchInRange r (length xs) → IsBinarySearchResult (λ y. int_cmp y v) xs r → Searched v xs r
searched v xs (Ok i) up lt h = searched-found v xs i up lt (λ d. cmp-equal _ _ (h d))
searched v xs (Err i) up le h =
    let parted = h (searchable_from_sorted int_cmp_total (λ x. x) xs v (rising-sorted xs up)) in
    searched-absent v xs i le (λ k d klt. cmp-less _ _ (parted.0 k d (omega arith) klt)) (λ k d ile in'. cmp-greater _ _ (parted.1 k d ile in'))

pub searched-member : (v : ℤ) (s : List ℤ) (r : Result ℕ ℕ) → Searched v s r → is_ok r ≡ is_member v s
searched-member v s (Ok i) (found lt there low high) = sym there
searched-member v s (Err i) (absent le there low high) = sym there

pub searched-removed : (v : ℤ) (s : List ℤ) (i : ℕ) → Searched v s (Ok i) → remove s i ≡ without_member v s
searched-removed v s i (found lt there low high) = ap (λ t. t ++ drop (suc i) s) (sym low) ∙ ap (λ t. below v s ++ t) (sym high)

pub searched-inserted : (v : ℤ) (s : List ℤ) (i : ℕ) → Searched v s (Err i) → insert s i v ≡ with_member v s
searched-inserted v s i (absent le there low high) = ap (λ t. t ++ v ∷ drop i s) (sym low) ∙ ap (λ t. below v s ++ v ∷ t) (sym high)

-- the same as clauses
pub searched-at : (v : ℤ) (s : List ℤ) (r : Result ℕ ℕ) → Searched v s r → IfOk r (λ i. (i < length s) × (remove s i ≡ without_member v s))
searched-at v s (Ok i) (found lt there low high) = (lt, searched-removed v s i (found lt there low high))
searched-at v s (Err i) h = tt

pub searched-between : (v : ℤ) (s : List ℤ) (r : Result ℕ ℕ) → Searched v s r → IfErr r (λ i. (i ≤ length s) × (insert s i v ≡ with_member v s))
searched-between v s (Ok i) h = tt
searched-between v s (Err i) (absent le there low high) = (le, searched-inserted v s i (absent le there low high))

-- an edit where the search said keeps a set a set
pub rising-inserted : (v : ℤ) (s xs new : List ℤ) (i : ℕ) → xs ≡ s → IsRising s → new ≡ insert s i v → insert xs i v ≡ with_member v xs → IsRising new
rising-inserted v s xs new i same rising now edited =
    subst (λ t. IsRising t) (sym (now ∙ subst (λ t. insert t i v ≡ with_member v t) same edited)) (rising-with v s rising)

pub rising-removed : (v : ℤ) (s xs new : List ℤ) (i : ℕ) → xs ≡ s → IsRising s → new ≡ remove s i → remove xs i ≡ without_member v xs → IsRising new
rising-removed v s xs new i same rising now edited =
    subst (λ t. IsRising t) (sym (now ∙ subst (λ t. remove t i ≡ without_member v t) same edited)) (rising-without v s rising)

-- ---- a sorted list without its doubles
is_member-dedup_from : (v k : ℤ) (xs : List ℤ) → is_member v (dedup_from int_eq k xs) ≡ (int_eq k v || is_member v xs)
is_member-dedup_from v k [] = refl
is_member-dedup_from v k (x ∷ xs) =
    elim (cases_Bool (int_eq x k)) [
      | inl e ↦
          let kept = is_member-dedup_from v k xs in
          let same : int_eq x v ≡ int_eq k v = ap (λ z. int_eq z v) (int_eq-true x k e) in
          let first = cond-true (int_eq x k) (dedup_from int_eq k xs) (k ∷ dedup_from int_eq x xs) e in
          ap (is_member v) first ∙ grind (arith, kept, same)
      | inr e ↦
          let kept = is_member-dedup_from v x xs in
          let first = cond-false (int_eq x k) (dedup_from int_eq k xs) (k ∷ dedup_from int_eq x xs) e in
          ap (is_member v) first ∙ grind (arith, kept)
    ]

is_member-dedup : (v : ℤ) (xs : List ℤ) → is_member v (dedup int_eq xs) ≡ is_member v xs
is_member-dedup v [] = refl
is_member-dedup v (x ∷ xs) = is_member-dedup_from v x xs

below_all-from : (x : ℤ) (xs : List ℤ) → AllByRecursion (λ y. int_cmp x y ≡ Less) xs → IsBelowAll x xs
below_all-from x [] h = tt
below_all-from x (y ∷ ys) h = (cmp-less x y h.0, below_all-from x ys h.1)

rising-from : (xs : List ℤ) → IsStrictlySortedBy int_cmp xs → IsRising xs
unfolding IsStrictlySortedBy
rising-from [] h = tt
rising-from (x ∷ xs) h = (below_all-from x xs h.0, rising-from xs h.1)

pub rising-dedup : (xs : List ℤ) → IsSorted int_cmp xs → IsRising (dedup int_eq xs)
rising-dedup xs sorted = rising-from _ (IsStrictlySortedBy-dedup int_cmp_total (λ _ _. refl) xs sorted)

-- what a sort and then a `dedup` leave is the set of the list
pub dedup-set_of : (xs ys : List ℤ) → IsPermutation xs ys → IsSorted int_cmp ys → dedup int_eq ys ≡ set_of xs
dedup-set_of xs ys moved sorted =
    same_set (dedup int_eq ys) (set_of xs) (rising-dedup ys sorted) (rising-set_of xs)
    (λ v. is_member-dedup v ys ∙ sym (list_any-IsPermutation (λ x. int_eq x v) xs ys moved) ∙ sym (is_member-set_of v xs))
