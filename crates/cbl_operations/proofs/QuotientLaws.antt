-- The quotient toward zero and the remainder.
use Rattle.std.proofs.Common.{◌≡◌, ℤ, pos, negsuc, ◌+ℤ◌, ◌*ℤ◌, ◌≤ℤ◌, ◌<◌, zero, suc, Result, Ok, Err, refl, sym, subst, arith}
use Rattle.std.specs.Prelude.{unsigned_abs, int_div, int_rem}
use Rattle.std.specs.Ordering.{int_eq}
use Rattle.std.proofs.lemmas.Bool.{cond_both}
use Rattle.std.proofs.lemmas.Bool.Decides.{Decides-int_eq}
use Rattle.std.proofs.lemmas.Int.{ints, quot-rem, rem_below}
use Rattle.cbl_base.specs.Arithmetic.{fits_64, exact, quotient, remainder}
use Rattle.cbl_base.specs.declared.faults.RunFault.{RunFault}
use Rattle.cbl_base.specs.declared.faults.RunFault.TheVariants.{Overflow, DivideByZero}

exact_is : (z v : ℤ) → exact z ≡ Ok v → z ≡ v
exact_is z v e = cond_both (fits_64 z) (Ok z) (Err Overflow) (λ (r : Result ℤ RunFault). r ≡ Ok v → z ≡ v) (λ _ e. cc) (λ _ e. cc) e

quotient_is : (a b q : ℤ) → quotient a b ≡ Ok q → int_div a b ≡ q
quotient_is a b q e =
    cond_both (int_eq b (pos 0)) (Err DivideByZero) (exact (int_div a b)) (λ (r : Result ℤ RunFault). r ≡ Ok q → int_div a b ≡ q)
    (λ _ e. cc) (λ _ e. exact_is (int_div a b) q e) e

remainder_is : (a b r : ℤ) → remainder a b ≡ Ok r → int_rem a b ≡ r
remainder_is a b r e =
    cond_both (int_eq b (pos 0)) (Err DivideByZero) (exact (int_rem a b)) (λ (s : Result ℤ RunFault). s ≡ Ok r → int_rem a b ≡ r)
    (λ _ e. cc) (λ _ e. exact_is (int_rem a b) r e) e

divisor_is : (a b r : ℤ) → remainder a b ≡ Ok r → (b ≡ pos 0 → ⊥)
divisor_is a b r e is_0 =
    cond_both (int_eq b (pos 0)) (Err DivideByZero) (exact (int_rem a b)) (λ (s : Result ℤ RunFault). s ≡ Ok r → ⊥)
    (λ _ e. cc) (λ fails e. let there = (Decides-int_eq b (pos 0)).1 is_0 in cc) e

size_above_0 : (b : ℤ) → (b ≡ pos 0 → ⊥) → 0 < unsigned_abs b
size_above_0 (pos zero) ne = absurd (ne refl)
size_above_0 (pos (suc n)) ne = omega arith
size_above_0 (negsuc n) ne = omega arith

sign_up : (a b : ℤ) → pos 0 ≤ℤ a → pos 0 ≤ℤ int_rem a b
sign_up (pos a) b h = omega (arith, ints)
sign_up (negsuc a) b h = absurd (omega (arith, ints, h))

sign_down : (a b : ℤ) → a ≤ℤ pos 0 → int_rem a b ≤ℤ pos 0
sign_down (pos zero) b h = omega (arith, ints)
sign_down (pos (suc a)) b h = absurd (omega (arith, ints, h))
sign_down (negsuc a) b h = omega (arith, ints)

pub whole_division : (a b q r : ℤ) → quotient a b ≡ Ok q → remainder a b ≡ Ok r
    → (a ≡ (q *ℤ b) +ℤ r) × (unsigned_abs r < unsigned_abs b) × (pos 0 ≤ℤ a → pos 0 ≤ℤ r) × (a ≤ℤ pos 0 → r ≤ℤ pos 0)
whole_division a b q r eq er =
    let q_is = quotient_is a b q eq in
    let r_is = remainder_is a b r er in
    subst (λ x. (a ≡ (x *ℤ b) +ℤ r) × (unsigned_abs r < unsigned_abs b) × (pos 0 ≤ℤ a → pos 0 ≤ℤ r) × (a ≤ℤ pos 0 → r ≤ℤ pos 0)) q_is
    (subst (λ y. (a ≡ (int_div a b *ℤ b) +ℤ y) × (unsigned_abs y < unsigned_abs b) × (pos 0 ≤ℤ a → pos 0 ≤ℤ y) × (a ≤ℤ pos 0 → y ≤ℤ pos 0)) r_is
    (sym (quot-rem a b), rem_below a b (size_above_0 b (divisor_is a b r er)), sign_up a b, sign_down a b))
