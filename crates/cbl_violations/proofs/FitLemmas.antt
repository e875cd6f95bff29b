-- Where a value is there, each number that it is made of fits.
use Rattle.std.proofs.Common.{◌≡◌, ℕ, zero, suc, ◌+◌, ◌<◌, ◌≤◌, Bool, true, false, cond, List, [], ◌∷◌, ◌++◌, refl, ap, ◌∙◌, sym, arith, ◌&&◌, Ok, Err, Result, ◌⊎◌, inl, inr}
use Rattle.std.specs.Prelude.{ℤ, pos, negsuc, map, IsOk, ◌≤ℤ◌}
use Rattle.std.proofs.lemmas.Int.{ints}
use Rattle.std.proofs.lemmas.Bool.Decides.{nat_tests}
use Rattle.std.specs.List.{list_all, range_with_len}
use Rattle.std.specs.Result.{result_unwrap_or}
use Rattle.cbl_base.specs.Arithmetic.{exact, fits_64}
use Rattle.cbl_base.specs.declared.faults.RunFault.{RunFault}
use Rattle.cbl_base.specs.declared.faults.RunFault.TheVariants.{Overflow}
use Rattle.cbl_violations.specs.Fitting.{where_all_fit, each_below}

ok_true : (b : Bool) (z : ℤ) (fault : RunFault) → IsOk (cond b (Ok z) (Err fault)) → b ≡ true
ok_true true z fault h = refl
ok_true false z fault h = cc h

pub all_fit : (parts : List ℤ) (z : ℤ) → IsOk (where_all_fit parts z) → list_all fits_64 parts ≡ true
all_fit parts z h = ok_true (list_all fits_64 parts) z Overflow h

pub and_left : (a b : Bool) → (a && b) ≡ true → a ≡ true
and_left true b e = refl
and_left false b e = e

pub and_right : (a b : Bool) → (a && b) ≡ true → b ≡ true
and_right true b e = e
and_right false b e = cc e

pub list_all_left : (p : ℤ → Bool) (xs ys : List ℤ) → list_all p (xs ++ ys) ≡ true → list_all p xs ≡ true
list_all_left p [] ys e = refl
list_all_left p (x ∷ xs) ys e =
    ap (λ b. b && list_all p xs) (and_left (p x) _ e) ∙ list_all_left p xs ys (and_right (p x) _ e)

pub list_all_right : (p : ℤ → Bool) (xs ys : List ℤ) → list_all p (xs ++ ys) ≡ true → list_all p ys ≡ true
list_all_right p [] ys e = e
list_all_right p (x ∷ xs) ys e = list_all_right p xs ys (and_right (p x) _ e)

range_fits : (g : ℕ → ℤ) (a n : ℕ) → list_all fits_64 (map g (range_with_len a n)) ≡ true → (k : ℕ) → a ≤ k → k < a + n → fits_64 (g k) ≡ true
range_fits g a zero e k low high = absurd (omega arith)
range_fits g a (suc n) e k low high =
    let cases : (a ≡ k) ⊎ (a + 1 ≤ k) = grind arith in
    elim cases [
      | inl same ↦ ap (λ k. fits_64 (g k)) (sym same) ∙ and_left (fits_64 (g a)) _ e
      | inr above ↦ range_fits g (a + 1) n (and_right (fits_64 (g a)) _ e) k above (omega arith)
    ]

pub below_fits : (g : ℕ → ℤ) (n : ℕ) → list_all fits_64 (each_below n g) ≡ true → (k : ℕ) → k < n → fits_64 (g k) ≡ true
below_fits g n e k h = range_fits g 0 n e k (omega arith) (omega arith)

pub exact_ok : (z : ℤ) → fits_64 z ≡ true → exact z ≡ Ok z
exact_ok z e = ap (λ b. cond b (Ok z) (Err Overflow)) e

-- what `unwrap_or` gives of a number that fits
pub unwrapped : (z : ℤ) (r : Result ℤ RunFault) (u : ℤ) → fits_64 z ≡ true → r ≡ exact z → u ≡ result_unwrap_or r (pos 0) → u ≡ z
unwrapped z r u fit e f = f ∙ ap (λ r. result_unwrap_or r (pos 0)) (e ∙ exact_ok z fit)

-- a number between 0 and one that fits
pub fits_between : (y z : ℤ) → pos 0 ≤ℤ y → y ≤ℤ z → fits_64 z ≡ true → fits_64 y ≡ true
fits_between (pos m) (pos n) low high e = grind (arith, ints, nat_tests)
fits_between (pos m) (negsuc n) low high e = absurd (omega (arith, ints))
fits_between (negsuc m) z low high e = absurd (omega (arith, ints))
