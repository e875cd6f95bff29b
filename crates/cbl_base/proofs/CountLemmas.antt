-- How often a number stands in a list, and the numbers that stand there.
use Rattle.std.proofs.Common.{◌≡◌, ℕ, ◌+◌, ◌<◌, ◌≤◌, ℤ, true, false, cond, ◌||◌, inl, inr, List, [], ◌∷◌, ◌++◌, length, get_or, set, refl, ap, ◌∙◌, subst, arith}
use Rattle.std.specs.Ordering.{int_eq}
use Rattle.std.proofs.lemmas.Bool.{both_ways, cases_Bool, cond-true, cond-false, or_left}
use Rattle.std.proofs.lemmas.List.Sums.{sum_by-cons, sum_by-append, sum_by-set, count_by-le-length}
use Rattle.cbl_base.specs.Sets.{is_member}
use Rattle.cbl_base.specs.Counts.{count_of, values_in}
use Rattle.cbl_base.proofs.SetLemmas.{int_eq-true}

-- 1 for the number itself, 0 for another
abbrev pub one_at : ℤ → ℤ → ℕ
one_at v x = cond (int_eq x v) 1 0

pub count_of-cons : (v x : ℤ) (xs : List ℤ) → count_of v (x ∷ xs) ≡ one_at v x + count_of v xs
count_of-cons v x xs = sum_by-cons (λ y. cond (int_eq y v) 1 0) x xs

pub count_of-append : (v : ℤ) (xs ys : List ℤ) → count_of v (xs ++ ys) ≡ count_of v xs + count_of v ys
count_of-append v xs ys = sum_by-append (λ y. cond (int_eq y v) 1 0) xs ys

pub count_of-le-length : (v : ℤ) (xs : List ℤ) → count_of v xs ≤ length xs
count_of-le-length v xs = count_by-le-length (λ y. int_eq y v) xs

-- another number at a place
pub count_of-set : (v : ℤ) (xs : List ℤ) (i : ℕ) (y d : ℤ) → i < length xs → count_of v (set xs i y) + one_at v (get_or xs i d) ≡ count_of v xs + one_at v y
count_of-set v xs i y d lt = sum_by-set (λ x. cond (int_eq x v) 1 0) xs i y d lt

-- it stands somewhere exactly where it is one of the numbers
pub count_of-absent : (v : ℤ) (xs : List ℤ) → is_member v xs ≡ false → count_of v xs ≡ 0
count_of-absent v [] h = refl
count_of-absent v (x ∷ xs) h =
    elim (cases_Bool (int_eq x v)) [
      | inl e ↦ absurd (both_ways _ h (or_left (int_eq x v) (is_member v xs) e))
      | inr e ↦
          let later = count_of-absent v xs (grind (arith, e, h)) in
          count_of-cons v x xs ∙ ap (λ n. n + count_of v xs) (cond-false (int_eq x v) 1 0 e) ∙ omega (arith, later)
    ]

pub count_of-member : (v : ℤ) (xs : List ℤ) → is_member v xs ≡ true → 0 < count_of v xs
count_of-member v [] h = absurd (both_ways _ refl h)
count_of-member v (x ∷ xs) h =
    elim (cases_Bool (int_eq x v)) [
      | inl e ↦ let one = cond-true {A = ℕ} (int_eq x v) 1 0 e in omega (arith, count_of-cons v x xs, one)
      | inr e ↦
          let later = count_of-member v xs (grind (arith, e, h)) in
          omega (arith, count_of-cons v x xs, later)
    ]

pub member_from_count : (v : ℤ) (xs : List ℤ) → 0 < count_of v xs → is_member v xs ≡ true
member_from_count v xs h =
    elim (cases_Bool (is_member v xs)) [ inl e ↦ e | inr e ↦ absurd (omega (arith, count_of-absent v xs e)) ]

-- the values of a list are its numbers, each once
pub is_member-values_in : (v : ℤ) (xs : List ℤ) → is_member v (values_in xs) ≡ is_member v xs
is_member-values_in v [] = refl
is_member-values_in v (x ∷ xs) =
    let later = is_member-values_in v xs in
    elim (cases_Bool (is_member x xs)) [
      | inl e ↦ ap (is_member v) (cond-true (is_member x xs) (values_in xs) (x ∷ values_in xs) e) ∙ later ∙ already v x xs e
      | inr e ↦ ap (is_member v) (cond-false (is_member x xs) (values_in xs) (x ∷ values_in xs) e) ∙ ap (λ b. int_eq x v || b) later
    ]
  where
    already : (v x : ℤ) (xs : List ℤ) → is_member x xs ≡ true → is_member v xs ≡ (int_eq x v || is_member v xs)
    already v x xs e =
        elim (cases_Bool (int_eq x v)) [
          | inl same ↦ let at : is_member v xs ≡ true = subst (λ z. is_member z xs ≡ true) (int_eq-true x v same) e in grind (arith, at)
          | inr other ↦ grind (arith, other)
        ]

pub count_of-values_in : (v : ℤ) (xs : List ℤ) → is_member v xs ≡ true → count_of v (values_in xs) ≡ 1
count_of-values_in v [] h = absurd (both_ways _ refl h)
count_of-values_in v (x ∷ xs) h =
    elim (cases_Bool (is_member x xs)) [
      | inl e ↦ ap (count_of v) (cond-true (is_member x xs) (values_in xs) (x ∷ values_in xs) e) ∙ count_of-values_in v xs (there e)
      | inr e ↦ ap (count_of v) (cond-false (is_member x xs) (values_in xs) (x ∷ values_in xs) e) ∙ count_of-cons v x (values_in xs) ∙ once (λ t. count_of-values_in v xs t) e
    ]
  where
    there : is_member x xs ≡ true → is_member v xs ≡ true
    there e =
        elim (cases_Bool (int_eq x v)) [
          | inl same ↦ subst (λ z. is_member z xs ≡ true) (int_eq-true x v same) e
          | inr other ↦ grind (arith, other, h)
        ]

    once : (is_member v xs ≡ true → count_of v (values_in xs) ≡ 1) → is_member x xs ≡ false → one_at v x + count_of v (values_in xs) ≡ 1
    once again e =
        elim (cases_Bool (int_eq x v)) [
          | inl same ↦
              let gone : is_member v xs ≡ false = subst (λ z. is_member z xs ≡ false) (int_eq-true x v same) e in
              let none = count_of-absent v (values_in xs) (is_member-values_in v xs ∙ gone) in
              let one = cond-true {A = ℕ} (int_eq x v) 1 0 same in
              omega (arith, none, one)
          | inr other ↦
              let later = again (grind (arith, other, h)) in
              let nothing = cond-false {A = ℕ} (int_eq x v) 1 0 other in
              omega (arith, later, nothing)
        ]
