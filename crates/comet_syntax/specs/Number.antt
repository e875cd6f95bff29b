-- The number that decimal digits spell.
use Rattle.std.specs.Prelude.{◌+◌, ◌*◌, ◌-◌, ℕ, List, [], ◌∷◌}

-- the number that digits spell, behind those that spell the one before
abbrev pub digits_behind : ℕ → List ℕ → ℕ
digits_behind before [] = before
digits_behind before (c ∷ cs) = digits_behind (before * 10 + (c - 48)) cs

abbrev pub number_of_digits : List ℕ → ℕ
number_of_digits digits = digits_behind 0 digits
