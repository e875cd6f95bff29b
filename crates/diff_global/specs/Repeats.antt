-- At how many places of a list a number stands that stands at a later place too: by so many places the
-- list has more places than values. A rule of this project.
use Rattle.std.specs.Prelude.{ℕ, ℤ, ◌+◌, min, List, [], ◌∷◌}
use Rattle.cbl_base.specs.Counts.{count_of}

abbrev pub repeats : List ℤ → ℕ
repeats [] = 0
repeats (x ∷ xs) = min 1 (count_of x xs) + repeats xs
