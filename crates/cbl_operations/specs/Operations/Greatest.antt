-- `max(..)` is the greatest of its numbers; there is one at least. A rule of this project.
use Rattle.std.specs.Prelude.{ℤ, pos, List, [], ◌∷◌, Ok}
use Rattle.std.specs.Int.{int_max}
use Rattle.cbl_base.specs.NumberRule.{NumberRule}
use Rattle.cbl_operations.specs.Forms.{rule_of_some}

-- the greatest of a list: of its first and the greatest of the others; 0 for none
abbrev pub greatest_of : List ℤ → ℤ
greatest_of [] = pos 0
greatest_of (x ∷ []) = x
greatest_of (x ∷ y ∷ ys) = int_max x (greatest_of (y ∷ ys))

abbrev pub greatest : NumberRule
greatest = rule_of_some (λ xs. Ok (greatest_of xs))
