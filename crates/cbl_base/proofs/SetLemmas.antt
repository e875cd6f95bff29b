-- Sets as lists that rise: their members, and that a set is known by its members.
use Rattle.std.proofs.Common.{◌≡◌, ℤ, ◌<ℤ◌, Bool, true, false, not, ◌&&◌, ◌||◌, ◌⊎◌, inl, inr, List, [], ◌∷◌, ◌++◌, refl, ap, sym, ◌∙◌, subst, arith}
use Rattle.std.specs.Prelude.{filter, int_lt}
use Rattle.std.specs.Ordering.{int_eq}
use Rattle.std.proofs.lemmas.Int.{ints, by_lt_z}
use Rattle.std.proofs.lemmas.Bool.{both_ways, cases_Bool, cond_both, false_from_ne_true}
use Rattle.std.proofs.lemmas.Bool.Decides.{Decides-int_eq}
use Rattle.std.proofs.lemmas.List.Folds.{list_any-append}
use Rattle.cbl_base.specs.Sets.{IsBelowAll, IsRising, is_member, below, above, with_member, without_member, with_members, without_members, set_of}

-- ---- the tests of two numbers
pub int_lt-true : (a b : ℤ) → a <ℤ b → int_lt a b ≡ true
int_lt-true a b h = grind (arith, ints)

pub int_lt-false : (a b : ℤ) → (a <ℤ b → ⊥) → int_lt a b ≡ false
int_lt-false a b h = grind (arith, ints)

pub int_lt-itself : (a : ℤ) → int_lt a a ≡ false
int_lt-itself a = grind (arith, ints)

pub int_lt-from : (a b : ℤ) → int_lt a b ≡ true → a <ℤ b
int_lt-from a b e = grind (arith, ints)

pub int_eq-itself : (a : ℤ) → int_eq a a ≡ true
int_eq-itself a = (Decides-int_eq a a).1 refl

pub int_eq-true : (a b : ℤ) → int_eq a b ≡ true → a ≡ b
int_eq-true a b e = (Decides-int_eq a b).0 e

pub int_eq-false : (a b : ℤ) → (a ≡ b → ⊥) → int_eq a b ≡ false
int_eq-false a b ne = false_from_ne_true (int_eq a b) (λ e. ne (int_eq-true a b e))

-- of two numbers one is below the other, or they are equal
pub below_equal_above : (a b : ℤ) → (a <ℤ b) ⊎ ((a ≡ b) ⊎ (b <ℤ a))
below_equal_above a b = by_lt_z a b (λ h. inl h) (λ le. by_lt_z b a (λ h. inr (inr h)) (λ ge. inr (inl (omega (arith, ints)))))

-- ---- members
pub is_member-append : (v : ℤ) (xs ys : List ℤ) → is_member v (xs ++ ys) ≡ (is_member v xs || is_member v ys)
is_member-append v xs ys = list_any-append (λ x. int_eq x v) xs ys

-- a filter keeps the members that pass
pub is_member-filter : (p : ℤ → Bool) (v : ℤ) (xs : List ℤ) → is_member v (filter p xs) ≡ (p v && is_member v xs)
is_member-filter p v [] = grind arith
is_member-filter p v (x ∷ xs) =
    let later = is_member-filter p v xs in
    elim (cases_Bool (int_eq x v)) [
      | inl e ↦ let same = int_eq-true x v e in grind (arith, same, later, e)
      | inr e ↦ grind (arith, later, e)
    ]

-- v is a member of a set with w where it is w or was a member
pub is_member-with : (v w : ℤ) (s : List ℤ) → is_member v (with_member w s) ≡ (int_eq w v || is_member v s)
is_member-with v w s =
    let parts = is_member-append v (below w s) (w ∷ above w s) in
    let low = is_member-filter (λ x. int_lt x w) v s in
    let high = is_member-filter (λ x. int_lt w x) v s in
    elim (below_equal_above v w) [
      | inl lt ↦ let t1 = int_lt-true v w lt in grind (arith, parts, low, high, t1)
      | inr (inl e) ↦ let t2 = (Decides-int_eq w v).1 (sym e) in grind (arith, parts, low, high, t2)
      | inr (inr gt) ↦ let t3 = int_lt-true w v gt in grind (arith, parts, low, high, t3)
    ]

-- and a member of a set without w where it was a member and isn't w
pub is_member-without : (v w : ℤ) (s : List ℤ) → is_member v (without_member w s) ≡ (not (int_eq w v) && is_member v s)
is_member-without v w s =
    let parts = is_member-append v (below w s) (above w s) in
    let low = is_member-filter (λ x. int_lt x w) v s in
    let high = is_member-filter (λ x. int_lt w x) v s in
    elim (below_equal_above v w) [
      | inl lt ↦ let t1 = int_lt-true v w lt in grind (arith, parts, low, high, t1)
      | inr (inl e) ↦ let t2 = (Decides-int_eq w v).1 (sym e) in grind (arith, parts, low, high, t2)
      | inr (inr gt) ↦ let t3 = int_lt-true w v gt in grind (arith, parts, low, high, t3)
    ]

pub is_member-with_members : (v : ℤ) (vs s : List ℤ) → is_member v (with_members vs s) ≡ (is_member v vs || is_member v s)
is_member-with_members v [] s = refl
is_member-with_members v (w ∷ vs) s =
    let first = is_member-with v w s in
    let later = is_member-with_members v vs (with_member w s) in
    grind (arith, first, later)

pub is_member-without_members : (v : ℤ) (vs s : List ℤ) → is_member v (without_members vs s) ≡ (not (is_member v vs) && is_member v s)
is_member-without_members v [] s = refl
is_member-without_members v (w ∷ vs) s =
    let first = is_member-without v w s in
    let later = is_member-without_members v vs (without_member w s) in
    grind (arith, first, later)

-- the set of a list has the list's members
pub is_member-set_of : (v : ℤ) (xs : List ℤ) → is_member v (set_of xs) ≡ is_member v xs
is_member-set_of v xs = let all = is_member-with_members v xs [] in grind (arith, all)

-- ---- rising
pub below_all-trans : (a b : ℤ) (ys : List ℤ) → a <ℤ b → IsBelowAll b ys → IsBelowAll a ys
below_all-trans a b [] lt h = tt
below_all-trans a b (y ∷ ys) lt h = (omega (arith, ints, h.0), below_all-trans a b ys lt h.1)

pub below_all-filter : (p : ℤ → Bool) (v : ℤ) (xs : List ℤ) → IsBelowAll v xs → IsBelowAll v (filter p xs)
below_all-filter p v [] h = tt
below_all-filter p v (x ∷ xs) h =
    cond_both (p x) (x ∷ filter p xs) (filter p xs) (λ t. IsBelowAll v t) (λ _. (h.0, below_all-filter p v xs h.1)) (λ _. below_all-filter p v xs h.1)

pub rising-filter : (p : ℤ → Bool) (xs : List ℤ) → IsRising xs → IsRising (filter p xs)
rising-filter p [] h = tt
rising-filter p (x ∷ xs) h =
    cond_both (p x) (x ∷ filter p xs) (filter p xs) (λ t. IsRising t) (λ _. (below_all-filter p x xs h.0, rising-filter p xs h.1)) (λ _. rising-filter p xs h.1)

below_all-append : (v : ℤ) (xs ys : List ℤ) → IsBelowAll v xs → IsBelowAll v ys → IsBelowAll v (xs ++ ys)
below_all-append v [] ys h k = k
below_all-append v (x ∷ xs) ys h k = (h.0, below_all-append v xs ys h.1 k)

-- v is below what is above it
below_all-above : (v : ℤ) (s : List ℤ) → IsBelowAll v (above v s)
below_all-above v [] = tt
below_all-above v (x ∷ xs) =
    cond_both (int_lt v x) (x ∷ above v xs) (above v xs) (λ t. IsBelowAll v t) (λ e. (int_lt-from v x e, below_all-above v xs)) (λ _. below_all-above v xs)

-- what is below v, and then a rising list of which v is no higher than all
rising-around : (v : ℤ) (s ys : List ℤ) → IsRising s → ((a : ℤ) → a <ℤ v → IsBelowAll a ys) → IsRising ys → IsRising (below v s ++ ys)
rising-around v [] ys rising lower up = up
rising-around v (x ∷ xs) ys rising lower up =
    cond_both (int_lt x v) (x ∷ below v xs) (below v xs) (λ t. IsRising (t ++ ys))
    (λ e. (below_all-append x (below v xs) ys (below_all-filter (λ z. int_lt z v) x xs rising.0) (lower x (int_lt-from x v e)), rising-around v xs ys rising.1 lower up))
    (λ _. rising-around v xs ys rising.1 lower up)

pub rising-with : (v : ℤ) (s : List ℤ) → IsRising s → IsRising (with_member v s)
rising-with v s rising =
    rising-around v s (v ∷ above v s) rising (λ a lt. (lt, below_all-trans a v (above v s) lt (below_all-above v s))) (below_all-above v s, rising-filter (λ x. int_lt v x) s rising)

pub rising-without : (v : ℤ) (s : List ℤ) → IsRising s → IsRising (without_member v s)
rising-without v s rising =
    rising-around v s (above v s) rising (λ a lt. below_all-trans a v (above v s) lt (below_all-above v s)) (rising-filter (λ x. int_lt v x) s rising)

pub rising-with_members : (vs s : List ℤ) → IsRising s → IsRising (with_members vs s)
rising-with_members [] s rising = rising
rising-with_members (v ∷ vs) s rising = rising-with_members vs (with_member v s) (rising-with v s rising)

pub rising-without_members : (vs s : List ℤ) → IsRising s → IsRising (without_members vs s)
rising-without_members [] s rising = rising
rising-without_members (v ∷ vs) s rising = rising-without_members vs (without_member v s) (rising-without v s rising)

pub rising-set_of : (xs : List ℤ) → IsRising (set_of xs)
rising-set_of xs = rising-with_members xs [] tt

-- ---- a rising list is known by its members
is_member-head : (v : ℤ) (xs : List ℤ) → is_member v (v ∷ xs) ≡ true
is_member-head v xs = let e = int_eq-itself v in grind (arith, e)

pub absent-below_all : (v : ℤ) (xs : List ℤ) → IsBelowAll v xs → is_member v xs ≡ false
absent-below_all v [] h = refl
absent-below_all v (x ∷ xs) h =
    let differs = int_eq-false x v (λ e. omega (arith, ints, h.0, e)) in
    let later = absent-below_all v xs h.1 in
    grind (arith, differs, later)

-- no member of a rising list is below its first
below_first : (v x : ℤ) (xs : List ℤ) → IsRising (x ∷ xs) → v <ℤ x → is_member v (x ∷ xs) ≡ false
below_first v x xs up lt = absent-below_all v (x ∷ xs) (lt, below_all-trans v x xs lt up.0)

same_heads : (x : ℤ) (xs : List ℤ) (y : ℤ) (ys : List ℤ) → IsRising (x ∷ xs) → IsRising (y ∷ ys) → ((v : ℤ) → is_member v (x ∷ xs) ≡ is_member v (y ∷ ys)) → x ≡ y
same_heads x xs y ys up up' same =
    elim (below_equal_above x y) [
      | inl lt ↦ absurd (both_ways _ (same x ∙ below_first x y ys up' lt) (is_member-head x xs))
      | inr (inl e) ↦ e
      | inr (inr gt) ↦ absurd (both_ways _ (sym (same y) ∙ below_first y x xs up gt) (is_member-head y ys))
    ]

same_tails : (x : ℤ) (xs : List ℤ) (y : ℤ) (ys : List ℤ) → x ≡ y → IsRising (x ∷ xs) → IsRising (y ∷ ys) → ((v : ℤ) → is_member v (x ∷ xs) ≡ is_member v (y ∷ ys)) → (v : ℤ) → is_member v xs ≡ is_member v ys
same_tails x xs y ys heads up up' same v =
    elim (cases_Bool (int_eq x v)) [
      | inl e ↦
          let at = int_eq-true x v e in
          subst (λ z. is_member z xs ≡ is_member z ys) at (absent-below_all x xs up.0 ∙ sym (subst (λ z. is_member z ys ≡ false) (sym heads) (absent-below_all y ys up'.0)))
      | inr e ↦
          let e' : int_eq y v ≡ false = subst (λ z. int_eq z v ≡ false) heads e in
          let all = same v in
          grind (arith, all, e, e')
    ]

pub same_set : (xs ys : List ℤ) → IsRising xs → IsRising ys → ((v : ℤ) → is_member v xs ≡ is_member v ys) → xs ≡ ys
same_set [] [] up up' same = refl
same_set [] (y ∷ ys) up up' same = absurd (both_ways _ (sym (same y)) (is_member-head y ys))
same_set (x ∷ xs) [] up up' same = absurd (both_ways _ (same x) (is_member-head x xs))
same_set (x ∷ xs) (y ∷ ys) up up' same =
    let heads = same_heads x xs y ys up up' same in
    let tails = same_set xs ys up.1 up'.1 (same_tails x xs y ys heads up up' same) in
    ap (λ z. z ∷ xs) heads ∙ ap (λ t. y ∷ t) tails

-- ---- what is already so stays so
pub with_member-there : (v : ℤ) (s : List ℤ) → IsRising s → is_member v s ≡ true → with_member v s ≡ s
with_member-there v s rising there = same_set (with_member v s) s (rising-with v s rising) rising (λ w. is_member-with w v s ∙ or_there w)
  where
    or_there : (w : ℤ) → (int_eq v w || is_member w s) ≡ is_member w s
    or_there w =
        elim (cases_Bool (int_eq v w)) [
          | inl e ↦ let at : is_member w s ≡ true = subst (λ z. is_member z s ≡ true) (int_eq-true v w e) there in grind (arith, at)
          | inr e ↦ grind (arith, e)
        ]

pub without_member-absent : (v : ℤ) (s : List ℤ) → IsRising s → is_member v s ≡ false → without_member v s ≡ s
without_member-absent v s rising absent = same_set (without_member v s) s (rising-without v s rising) rising (λ w. is_member-without w v s ∙ and_there w)
  where
    and_there : (w : ℤ) → (not (int_eq v w) && is_member w s) ≡ is_member w s
    and_there w =
        elim (cases_Bool (int_eq v w)) [
          | inl e ↦ let at : is_member w s ≡ false = subst (λ z. is_member z s ≡ false) (int_eq-true v w e) absent in grind (arith, at)
          | inr e ↦ grind (arith, e)
        ]

-- the same where what was asked is a list that is the set
pub with_member-stays : (v : ℤ) (inside s xs : List ℤ) → xs ≡ inside → inside ≡ s → IsRising inside → true ≡ is_member v xs → s ≡ with_member v s
with_member-stays v inside s xs e f rising there =
    subst (λ t. t ≡ with_member v t) f (sym (with_member-there v inside rising (sym (subst (λ t. true ≡ is_member v t) e there))))

pub without_member-stays : (v : ℤ) (inside s xs : List ℤ) → xs ≡ inside → inside ≡ s → IsRising inside → false ≡ is_member v xs → s ≡ without_member v s
without_member-stays v inside s xs e f rising absent =
    subst (λ t. t ≡ without_member v t) f (sym (without_member-absent v inside rising (sym (subst (λ t. false ≡ is_member v t) e absent))))

-- a rising list is the set of its members
pub set_of-rising : (xs : List ℤ) → IsRising xs → set_of xs ≡ xs
set_of-rising xs rising = same_set (set_of xs) xs (rising-set_of xs) rising (λ v. is_member-set_of v xs)
