-- The total of whole numbers, over which nothing overflows.
use Rattle.std.specs.Prelude.{ℤ, pos, ◌+ℤ◌, List, [], ◌∷◌, map}

abbrev pub total : List ℤ → ℤ
total [] = pos 0
total (x ∷ xs) = x +ℤ total xs

-- the total of what each gives
abbrev pub total_by : {X : Type 0} → (X → ℤ) → List X → ℤ
total_by f xs = total (map f xs)
