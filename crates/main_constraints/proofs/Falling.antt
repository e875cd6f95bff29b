-- The sum of the falls, as a list grows.
use Rattle.std.proofs.Common.{◌≡◌, ℕ, zero, suc, ◌+◌, ◌-◌, ◌*◌, ◌^◌, ◌<◌, ◌≤◌, ℤ, pos, List, [], ◌∷◌, length, get_or, take, refl, ap, ◌∙◌, arith, add-one, sub-one}
use Rattle.main_constraints.specs.Increasing.{fall, falls}

falls-more : (xs : List ℤ) (i : ℕ) (d : ℤ) → suc i < length xs
    → falls (take (suc (suc i)) xs) ≡ falls (take (suc i) xs) + fall (get_or xs i d) (get_or xs (suc i) d)
falls-more [] i d lt = absurd (omega (arith, lt))
falls-more (x ∷ []) i d lt = absurd (omega (arith, lt))
falls-more (x ∷ y ∷ xs) zero d lt = omega arith
falls-more (x ∷ y ∷ xs) (suc i) d lt = omega (arith, falls-more (y ∷ xs) i d (omega (arith, lt)))

-- a loop's step
pub falls-step : (xs : List ℤ) (i : ℕ) (d : ℤ) → 1 ≤ i → i < length xs
    → falls (take (i + 1) xs) ≡ falls (take i xs) + fall (get_or xs (i - 1) d) (get_or xs i d)
falls-step xs zero d low lt = absurd (omega (arith, low))
falls-step xs (suc i) d low lt = rw (add-one, sub-one) (falls-more xs i d lt)

-- the sum and its bound after a step
pub record IsSum (xs : List ℤ) (i sum : ℕ) : Type 0 where
  pub sum_is : sum ≡ falls (take i xs)
  pub small : sum ≤ 2 ^ 64 * i

pub next_sum : (xs : List ℤ) (i sum part : ℕ) (x y : ℤ) → 1 ≤ i → i < length xs
    → x ≡ get_or xs (i - 1) (pos 0) → y ≡ get_or xs i (pos 0)
    → sum ≡ falls (take i xs) → sum ≤ 2 ^ 64 * i → part ≡ fall x y → part < 2 ^ 64
    → IsSum xs (i + 1) (sum + part)
next_sum xs i sum part x y low lt before at sum_is small part_is narrow =
    let fell : part ≡ fall (get_or xs (i - 1) (pos 0)) (get_or xs i (pos 0)) = part_is ∙ ap (λ z. fall z y) before ∙ ap (λ z. fall (get_or xs (i - 1) (pos 0)) z) at in
    let step = falls-step xs i (pos 0) low lt in
    record { sum_is = rw (step, sum_is, fell) refl; small = omega arith }
