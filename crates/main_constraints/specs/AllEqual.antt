-- `allequal`: all numbers are to be equal. The violations are the places less the greatest number of equal
-- ones. A rule of this project.
use Rattle.std.specs.Prelude.{ℕ, ℤ, ◌-◌, List, [], ◌∷◌, length, map, max}
use Rattle.cbl_base.specs.Counts.{count_of}
use Rattle.user_constraint.specs.UserRule.{UserRule}
use Rattle.main_constraints.specs.WholeRule.{whole_rule}

-- the greatest of the numbers, 0 of none
abbrev pub greatest : List ℕ → ℕ
greatest [] = 0
greatest (n ∷ ns) = max n (greatest ns)

-- how often the number stands in the list that stands there most often
abbrev pub most_equal : List ℤ → ℕ
most_equal xs = greatest (map (λ x. count_of x xs) xs)

abbrev pub all_equal : UserRule
all_equal = whole_rule (λ xs. length xs - most_equal xs)
