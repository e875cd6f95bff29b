-- One number, or two, as a list.
use Rattle.std.proofs.Common.{◌≡◌, ℤ, List, [], ◌∷◌, length, get_or, refl, arith}

pub one_number : (xs : List ℤ) (d : ℤ) → length xs ≡ 1 → get_or xs 0 d ∷ [] ≡ xs
one_number [] d long = absurd (omega (arith, long))
one_number (x ∷ []) d long = refl
one_number (x ∷ y ∷ xs) d long = absurd (omega (arith, long))

pub two_numbers : (xs : List ℤ) (d e : ℤ) → length xs ≡ 2 → get_or xs 0 d ∷ get_or xs 1 e ∷ [] ≡ xs
two_numbers [] d e long = absurd (omega (arith, long))
two_numbers (x ∷ []) d e long = absurd (omega (arith, long))
two_numbers (x ∷ y ∷ []) d e long = refl
two_numbers (x ∷ y ∷ z ∷ xs) d e long = absurd (omega (arith, long))
