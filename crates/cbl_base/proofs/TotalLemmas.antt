-- Totals of whole numbers.
use Rattle.std.proofs.Common.{◌≡◌, ℕ, zero, suc, ◌+◌, ◌<◌, ℤ, pos, ◌+ℤ◌, ◌-ℤ◌, ◌≤ℤ◌, List, [], ◌∷◌, ◌++◌, length, get_or, set, take, map, refl, ap, ◌∙◌, arith}
use Rattle.std.specs.Prelude.{sum_by}
use Rattle.std.specs.List.{All}
use Rattle.std.proofs.lemmas.Int.{ints}
use Rattle.std.proofs.lemmas.List.{map-append, take_more}
use Rattle.std.proofs.lemmas.List.Elements.{All-nil, All-cons, All-head, All-tail}
use Rattle.std.proofs.lemmas.List.Sums.{sum_by-cons}
use Rattle.cbl_base.specs.Totals.{total, total_by}

pub total-append : (xs ys : List ℤ) → total (xs ++ ys) ≡ total xs +ℤ total ys
total-append [] ys = omega (arith, ints)
total-append (x ∷ xs) ys = omega (arith, ints, total-append xs ys)

-- a loop's step
pub total-more : (xs : List ℤ) (i : ℕ) (d : ℤ) → i < length xs → total (take (i + 1) xs) ≡ total (take i xs) +ℤ get_or xs i d
total-more xs i d lt = ap total (take_more xs i d lt) ∙ total-append (take i xs) (get_or xs i d ∷ []) ∙ omega (arith, ints)

-- another number at a place
pub total-set : (xs : List ℤ) (i : ℕ) (y d : ℤ) → i < length xs → total (set xs i y) ≡ (total xs -ℤ get_or xs i d) +ℤ y
total-set [] i y d lt = absurd (omega arith)
total-set (x ∷ xs) zero y d lt = omega (arith, ints)
total-set (x ∷ xs) (suc i) y d lt = omega (arith, ints, total-set xs i y d (omega arith))

pub total-nonnegative : (xs : List ℤ) → All (λ x. pos 0 ≤ℤ x) xs → pos 0 ≤ℤ total xs
total-nonnegative [] h = omega (arith, ints)
total-nonnegative (x ∷ xs) h =
    omega (arith, ints, All-head (λ x. pos 0 ≤ℤ x) x xs h, total-nonnegative xs (All-tail (λ x. pos 0 ≤ℤ x) x xs h))

-- a total of numbers that are no less than 0 is 0 where each of them is
pub zeros_from_total : (xs : List ℤ) → All (λ x. pos 0 ≤ℤ x) xs → total xs ≡ pos 0 → All (λ x. x ≡ pos 0) xs
zeros_from_total [] h e = All-nil (λ x. x ≡ pos 0)
zeros_from_total (x ∷ xs) h e =
    let first = All-head (λ x. pos 0 ≤ℤ x) x xs h in
    let later = All-tail (λ x. pos 0 ≤ℤ x) x xs h in
    let up = total-nonnegative xs later in
    All-cons (λ x. x ≡ pos 0) x xs (omega (arith, ints, first, up, e)) (zeros_from_total xs later (omega (arith, ints, first, up, e)))

pub total-zeros : (xs : List ℤ) → All (λ x. x ≡ pos 0) xs → total xs ≡ pos 0
total-zeros [] h = refl
total-zeros (x ∷ xs) h =
    omega (arith, ints, All-head (λ x. x ≡ pos 0) x xs h, total-zeros xs (All-tail (λ x. x ≡ pos 0) x xs h))

pub total_by-append : {X : Type 0} (f : X → ℤ) (xs ys : List X) → total_by f (xs ++ ys) ≡ total_by f xs +ℤ total_by f ys
total_by-append f xs ys = ap total (map-append f xs ys) ∙ total-append (map f xs) (map f ys)

-- a total of natural numbers is their sum
pub total_by-pos : {X : Type 0} (f : X → ℕ) (xs : List X) → total_by (λ x. pos (f x)) xs ≡ pos (sum_by f xs)
total_by-pos f [] = refl
total_by-pos f (x ∷ xs) = omega (arith, ints, total_by-pos f xs, sum_by-cons f x xs)
