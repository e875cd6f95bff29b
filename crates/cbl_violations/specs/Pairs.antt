-- Two lists are gone through together, as items and their sizes.
use Rattle.std.specs.Prelude.{ℤ, pos, ◌+ℤ◌, List, [], ◌∷◌}

-- the sum of what f gives of both lists' numbers at each place
abbrev pub pair_total : (ℤ → ℤ → ℤ) → List ℤ → List ℤ → ℤ
pair_total f [] ys = pos 0
pair_total f (x ∷ xs) [] = pos 0
pair_total f (x ∷ xs) (y ∷ ys) = f x y +ℤ pair_total f xs ys
