-- How often a number stands in a list, and the numbers that stand there.
use Rattle.std.specs.Prelude.{ℕ, ℤ, List, [], ◌∷◌, count_by, if◌then◌else◌}
use Rattle.std.specs.Ordering.{int_eq}
use Rattle.cbl_base.specs.Sets.{is_member}

-- at how many places of the list the number stands
abbrev pub count_of : ℤ → List ℤ → ℕ
count_of v xs = count_by (λ x. int_eq x v) xs

-- the numbers of the list, each once
abbrev pub values_in : List ℤ → List ℤ
values_in [] = []
values_in (x ∷ xs) = if is_member x xs then values_in xs else (x ∷ values_in xs)
