-- What it means that all numbers are equal, and how many places have to change for it.
use Rattle.std.proofs.Common.{◌≡◌, ◌↔◌, ℕ, zero, suc, ◌-◌, ◌<◌, ◌≤◌, true, inl, inr, List, [], ◌∷◌, length, get_or, refl, ap, ◌∙◌, sym, subst, arith}
use Rattle.std.specs.Prelude.{ℤ, pos, AllPairs}
use Rattle.std.specs.Ordering.{int_eq}
use Rattle.std.proofs.lemmas.Bool.{cases_Bool, cases_lt, cond-true, cond-false, both_ways}
use Rattle.cbl_base.specs.Sets.{is_member}
use Rattle.cbl_base.specs.Counts.{count_of}
use Rattle.cbl_base.proofs.SetLemmas.{int_eq-itself, int_eq-true}
use Rattle.cbl_base.proofs.CountLemmas.{count_of-cons, count_of-le-length, count_of-absent}
use Rattle.main_constraints.specs.WholeRule.{capped}
use Rattle.main_constraints.specs.AllEqual.{most_equal, all_equal}
use Rattle.main_constraints.proofs.MostEqual.{most_of}

-- no number stands there oftener than the greatest number of equal ones
most_of-member : (v : ℤ) (ys xs : List ℤ) → is_member v ys ≡ true → count_of v xs ≤ most_of ys xs
most_of-member v [] xs h = absurd (both_ways _ refl h)
most_of-member v (y ∷ ys) xs h =
    elim (cases_Bool (int_eq y v)) [
      | inl same ↦
          let e : count_of y xs ≡ count_of v xs = ap (λ z. count_of z xs) (int_eq-true y v same) in
          omega (arith, e)
      | inr other ↦ omega (arith, most_of-member v ys xs (grind (arith, other, h)))
    ]

most_above : (v : ℤ) (xs : List ℤ) → count_of v xs ≤ most_equal xs
most_above v xs =
    elim (cases_Bool (is_member v xs)) [
      | inl there ↦ most_of-member v xs xs there
      | inr absent ↦ omega (arith, count_of-absent v xs absent)
    ]

-- and one does as often
most_reached : (ys xs : List ℤ) → (v : ℤ) × (most_of ys xs ≤ count_of v xs)
most_reached [] xs = (pos 0, omega arith)
most_reached (y ∷ ys) xs =
    let (v, at) = most_reached ys xs in
    elim (cases_lt (count_of v xs) (count_of y xs)) [
      | inl below ↦ (y, omega (arith, below, at))
      | inr above ↦ (v, omega (arith, above, at))
    ]

pub fewest : (xs : List ℤ) (v : ℤ) → all_equal.viol_of xs ≤ length xs - count_of v xs
fewest xs v = omega (arith, most_above v xs)

pub reached : (xs : List ℤ) → (v : ℤ) × (all_equal.viol_of xs ≡ capped (length xs - count_of v xs))
reached xs =
    let most = most_reached xs xs in
    let same : most_equal xs ≡ count_of most.0 xs = omega (arith, most.1, most_above most.0 xs) in
    (most.0, ap (λ n. capped (length xs - n)) same)

-- a number that stands as often as there are places stands at each
at_each : (v : ℤ) (xs : List ℤ) → length xs ≤ count_of v xs → (k : ℕ) (d : ℤ) → k < length xs → get_or xs k d ≡ v
at_each v [] h k d lt = absurd (omega (arith, lt))
at_each v (x ∷ xs) h k d lt =
    elim (cases_Bool (int_eq x v)) [
      | inl same ↦
          let one = cond-true {A = ℕ} (int_eq x v) 1 0 same in
          here k (int_eq-true x v same) lt (at_each v xs (omega (arith, h, one, count_of-cons v x xs)))
      | inr other ↦
          let none = cond-false {A = ℕ} (int_eq x v) 1 0 other in
          absurd (omega (arith, h, none, count_of-cons v x xs, count_of-le-length v xs))
    ]
  where
    here : (k : ℕ) → x ≡ v → k < suc (length xs) → ((k : ℕ) (d : ℤ) → k < length xs → get_or xs k d ≡ v) → get_or (x ∷ xs) k d ≡ v
    here zero same lt later = same
    here (suc k) same lt later = later k d (omega (arith, lt))

each_counts : (v : ℤ) (xs : List ℤ) → ((k : ℕ) (d : ℤ) → k < length xs → get_or xs k d ≡ v) → count_of v xs ≡ length xs
each_counts v [] h = refl
each_counts v (x ∷ xs) h =
    let same : int_eq x v ≡ true = subst (λ z. int_eq x z ≡ true) (h 0 x (omega arith)) (int_eq-itself x) in
    let one = cond-true {A = ℕ} (int_eq x v) 1 0 same in
    omega (arith, one, count_of-cons v x xs, each_counts v xs (λ k d lt. h (suc k) d (omega (arith, lt))))

equal_pairs : (xs : List ℤ) → all_equal.viol_of xs ≡ 0 → AllPairs ◌≡◌ xs
equal_pairs xs none i j d before within =
    let most = most_reached xs xs in
    let all : length xs ≤ count_of most.0 xs = omega (arith, none, most.1) in
    at_each most.0 xs all i d (omega (arith, before, within)) ∙ sym (at_each most.0 xs all j d within)

pairs_equal : (xs : List ℤ) → AllPairs ◌≡◌ xs → all_equal.viol_of xs ≡ 0
pairs_equal [] h = refl
pairs_equal (x ∷ xs) h =
    let all = each_counts x (x ∷ xs) (first x xs h) in
    omega (arith, all, most_above x (x ∷ xs))
  where
    first : (x : ℤ) (xs : List ℤ) → AllPairs ◌≡◌ (x ∷ xs) → (k : ℕ) (d : ℤ) → k < length (x ∷ xs) → get_or (x ∷ xs) k d ≡ x
    first x xs h zero d lt = refl
    first x xs h (suc k) d lt = sym (h 0 (suc k) d (omega arith) lt)

pub holds : (xs : List ℤ) → (all_equal.viol_of xs ≡ 0) ↔ AllPairs ◌≡◌ xs
holds xs = (equal_pairs xs, pairs_equal xs)
