-- `min(..)` is the least of its numbers; there is one at least. A rule of this project.
use Rattle.std.specs.Prelude.{ℤ, pos, List, [], ◌∷◌, Ok}
use Rattle.std.specs.Int.{int_min}
use Rattle.cbl_base.specs.NumberRule.{NumberRule}
use Rattle.cbl_operations.specs.Forms.{rule_of_some}

-- the least of a list: of its first and the least of the others; 0 for none
abbrev pub least_of : List ℤ → ℤ
least_of [] = pos 0
least_of (x ∷ []) = x
least_of (x ∷ y ∷ ys) = int_min x (least_of (y ∷ ys))

abbrev pub least : NumberRule
least = rule_of_some (λ xs. Ok (least_of xs))
