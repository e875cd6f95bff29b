-- Sums and totals of what values, or indices, give, where that changes of one of them.
use Rattle.std.proofs.Common.{pos, ◌≡◌, ◌≢◌, ℕ, zero, suc, ◌+◌, ◌<◌, ◌≤◌, ℤ, ◌+ℤ◌, ◌-ℤ◌, true, false, ◌⊎◌, inl, inr, List, [], ◌∷◌, refl, ap, ◌∙◌, arith}
use Rattle.std.specs.Prelude.{sum_by}
use Rattle.std.specs.List.{range_with_len}
use Rattle.std.specs.Ordering.{int_eq}
use Rattle.std.proofs.lemmas.Bool.{cases_Bool, cond-true, cond-false, both_ways}
use Rattle.std.proofs.lemmas.Int.{ints}
use Rattle.std.proofs.lemmas.List.Sums.{sum_by-cons}
use Rattle.cbl_base.specs.Counts.{count_of}
use Rattle.cbl_base.specs.Totals.{total_by}
use Rattle.cbl_base.proofs.CountLemmas.{one_at, count_of-cons}
use Rattle.cbl_base.proofs.TotalLemmas.{total_by-pos}
use Rattle.cbl_base.proofs.SetLemmas.{int_eq-itself, int_eq-true}

pub one_at-same : (v x : ℤ) → int_eq x v ≡ true → one_at v x ≡ 1
one_at-same v x e = cond-true {A = ℕ} (int_eq x v) 1 0 e

pub one_at-other : (v x : ℤ) → int_eq x v ≡ false → one_at v x ≡ 0
one_at-other v x e = cond-false {A = ℕ} (int_eq x v) 1 0 e

differ : (x v : ℤ) → int_eq x v ≡ false → x ≢ v
differ x v e same = both_ways (int_eq x v) e (ap (λ z. int_eq z v) same ∙ int_eq-itself v)

-- ---- what the value k gives changes, and of the others it stays
module _ (h h' : ℤ → ℕ) (k : ℤ) (off : (v : ℤ) → v ≢ k → h' v ≡ h v) where
  -- where k isn't among the values
  pub sum_off_value : (values : List ℤ) → count_of k values ≡ 0 → sum_by h' values ≡ sum_by h values
  sum_off_value [] none = refl
  sum_off_value (x ∷ values) none =
      elim (cases_Bool (int_eq x k)) [
        | inl e ↦ absurd (omega (arith, count_of-cons k x values, one_at-same k x e, none))
        | inr e ↦
            let first = off x (differ x k e) in
            let later = sum_off_value values (omega (arith, count_of-cons k x values, none)) in
            omega (arith, sum_by-cons h x values, sum_by-cons h' x values, first, later)
      ]

  -- where it is once among them
  pub sum_at_value : (values : List ℤ) → count_of k values ≡ 1 → sum_by h' values + h k ≡ sum_by h values + h' k
  sum_at_value [] once = absurd (omega (arith, once))
  sum_at_value (x ∷ values) once =
      elim (cases_Bool (int_eq x k)) [
        | inl e ↦
            let same = int_eq-true x k e in
            let later = sum_off_value values (omega (arith, count_of-cons k x values, one_at-same k x e, once)) in
            omega (arith, sum_by-cons h x values, sum_by-cons h' x values, ap h same, ap h' same, later)
        | inr e ↦
            let first = off x (differ x k e) in
            let later = sum_at_value values (omega (arith, count_of-cons k x values, one_at-other k x e, once)) in
            omega (arith, sum_by-cons h x values, sum_by-cons h' x values, first, later)
      ]

-- where none changes
pub sum_same : (h h' : ℤ → ℕ) → ((v : ℤ) → h' v ≡ h v) → (values : List ℤ) → sum_by h' values ≡ sum_by h values
sum_same h h' same [] = refl
sum_same h h' same (x ∷ values) = omega (arith, sum_by-cons h x values, sum_by-cons h' x values, same x, sum_same h h' same values)

-- ---- the same of totals over indices from a on
pub total_same : (h h' : ℕ → ℤ) (a n : ℕ) → ((k : ℕ) → a ≤ k → k < a + n → h' k ≡ h k) → total_by h' (range_with_len a n) ≡ total_by h (range_with_len a n)
total_same h h' a zero same = refl
total_same h h' a (suc n) same =
    let first = same a (omega arith) (omega arith) in
    let later = total_same h h' (a + 1) n (λ k low high. same k (omega arith) (omega arith)) in
    omega (arith, ints, first, later)

-- where what the index j gives changes, and of the others it stays
pub total_at_index : (h h' : ℕ → ℤ) (j a n : ℕ) → a ≤ j → j < a + n → ((k : ℕ) → k ≢ j → h' k ≡ h k) → total_by h' (range_with_len a n) ≡ (total_by h (range_with_len a n) -ℤ h j) +ℤ h' j
total_at_index h h' j a zero low high off = absurd (omega arith)
total_at_index h h' j a (suc n) low high off =
    let cases : (a ≡ j) ⊎ (a + 1 ≤ j) = grind arith in
    elim cases [
      | inl same ↦
          let later = total_same h h' (a + 1) n (λ k l u. off k (λ e. omega (arith, e))) in
          let old = ap h same in
          let new = ap h' same in
          omega (arith, ints, later, old, new)
      | inr above ↦
          let first = off a (λ e. omega (arith, e)) in
          let later = total_at_index h h' j (a + 1) n above (omega arith) off in
          omega (arith, ints, first, later)
    ]

-- the same of sums
pub sum_range_same : (h h' : ℕ → ℕ) (a n : ℕ) → ((k : ℕ) → a ≤ k → k < a + n → h' k ≡ h k) → sum_by h' (range_with_len a n) ≡ sum_by h (range_with_len a n)
sum_range_same h h' a n same =
    let all = total_same (λ k. pos (h k)) (λ k. pos (h' k)) a n (λ k low high. ap pos (same k low high)) in
    omega (arith, ints, all, total_by-pos h (range_with_len a n), total_by-pos h' (range_with_len a n))

pub sum_at_index : (h h' : ℕ → ℕ) (j a n : ℕ) → a ≤ j → j < a + n → ((k : ℕ) → k ≢ j → h' k ≡ h k) → sum_by h' (range_with_len a n) + h j ≡ sum_by h (range_with_len a n) + h' j
sum_at_index h h' j a n low high off =
    let all = total_at_index (λ k. pos (h k)) (λ k. pos (h' k)) j a n low high (λ k ne. ap pos (off k ne)) in
    omega (arith, ints, all, total_by-pos h (range_with_len a n), total_by-pos h' (range_with_len a n))
