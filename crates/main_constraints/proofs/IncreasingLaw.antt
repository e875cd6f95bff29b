-- What it means that no number is below an earlier one.
use Rattle.std.proofs.Common.{◌≡◌, ◌↔◌, ℕ, zero, suc, ◌<◌, List, [], ◌∷◌, length, get_or, refl, arith}
use Rattle.std.specs.Prelude.{ℤ, pos, ◌≤ℤ◌, AllPairs}
use Rattle.std.proofs.lemmas.Int.{ints, clamps}
use Rattle.main_constraints.specs.Increasing.{fall, falls, increasing}

no_fall : (x y : ℤ) → fall x y ≡ 0 → x ≤ℤ y
no_fall x y h = grind (arith, ints, clamps)

rise : (x y : ℤ) → x ≤ℤ y → fall x y ≡ 0
rise x y h = grind (arith, ints, clamps)

-- where nothing falls, the first number is the least
first_least : (x : ℤ) (xs : List ℤ) → falls (x ∷ xs) ≡ 0 → (k : ℕ) (d : ℤ) → k < length xs → x ≤ℤ get_or xs k d
first_least x [] h k d lt = absurd (omega (arith, lt))
first_least x (y ∷ ys) h zero d lt = no_fall x y (omega (arith, h))
first_least x (y ∷ ys) h (suc k) d lt =
    omega (arith, ints, no_fall x y (omega (arith, h)), first_least y ys (omega (arith, h)) k d (omega (arith, lt)))

no_fall_later : (x : ℤ) (xs : List ℤ) → falls (x ∷ xs) ≡ 0 → falls xs ≡ 0
no_fall_later x [] h = refl
no_fall_later x (y ∷ ys) h = omega (arith, h)

rising_pairs : (xs : List ℤ) → falls xs ≡ 0 → AllPairs ◌≤ℤ◌ xs
rising_pairs [] h i j d before within = absurd (omega (arith, within))
rising_pairs (x ∷ xs) h i zero d before within = absurd (omega (arith, before))
rising_pairs (x ∷ xs) h zero (suc j) d before within = first_least x xs h j d (omega (arith, within))
rising_pairs (x ∷ xs) h (suc i) (suc j) d before within =
    rising_pairs xs (no_fall_later x xs h) i j d (omega (arith, before)) (omega (arith, within))

pairs_rising : (xs : List ℤ) → AllPairs ◌≤ℤ◌ xs → falls xs ≡ 0
pairs_rising [] h = refl
pairs_rising (x ∷ []) h = refl
pairs_rising (x ∷ y ∷ ys) h =
    let here = rise x y (h 0 1 (pos 0) (omega arith) (omega arith)) in
    let later = pairs_rising (y ∷ ys) (λ i j d before within. h (suc i) (suc j) d (omega (arith, before)) (omega (arith, within))) in
    omega (arith, here, later)

pub holds : (xs : List ℤ) → (increasing.viol_of xs ≡ 0) ↔ AllPairs ◌≤ℤ◌ xs
holds xs =
    let none : increasing.viol_of xs ≡ 0 → falls xs ≡ 0 = λ (h : increasing.viol_of xs ≡ 0). omega (arith, h) in
    (λ h. rising_pairs xs (none h), λ h. omega (arith, pairs_rising xs h))
