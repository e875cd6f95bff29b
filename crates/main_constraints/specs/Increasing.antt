-- `increasing`: no number is to be below the one before it. The violations are the sum of how far each is.
-- A rule of this project.
use Rattle.std.specs.Prelude.{ℕ, ◌+◌, ℤ, pos, ◌-ℤ◌, nat_abs, List, [], ◌∷◌}
use Rattle.std.specs.Int.{int_max}
use Rattle.user_constraint.specs.UserRule.{UserRule}
use Rattle.main_constraints.specs.WholeRule.{whole_rule}

-- how far the second number is below the first, 0 where it isn't
abbrev pub fall : ℤ → ℤ → ℕ
fall x y = nat_abs (int_max (pos 0) (x -ℤ y))

-- the sum of the falls from each number to the next
abbrev pub falls : List ℤ → ℕ
falls [] = 0
falls (x ∷ []) = 0
falls (x ∷ y ∷ xs) = fall x y + falls (y ∷ xs)

abbrev pub increasing : UserRule
increasing = whole_rule falls
