-- `rest`: a list has a shift for each day, 0 off, 1 a day shift, 2 a night shift. A day shift right behind a
-- night shift is a short rest, and the violations are how many there are. A rule of this project.
use Rattle.std.specs.Prelude.{ℕ, zero, suc, ◌+◌, ◌^◌, ℤ, pos, List, [], ◌∷◌, get_or, min, ◌&&◌, if◌then◌else◌}
use Rattle.std.specs.Ordering.{int_eq}
use Rattle.std.proofs.Math.Nat.{min-le_right}
use Rattle.user_constraint.specs.UserRule.{UserRule}

-- 1 where a night shift and then a day shift follow each other, else 0
abbrev pub short_rest : ℤ → ℤ → ℕ
short_rest x y = if int_eq x (pos 2) && int_eq y (pos 1) then 1 else 0

-- how many short rests a list has
abbrev pub short_rests : List ℤ → ℕ
short_rests [] = 0
short_rests (x ∷ []) = 0
short_rests (x ∷ y ∷ xs) = short_rest x y + short_rests (y ∷ xs)

-- the shift of a day, off outside the list
abbrev pub shift : List ℤ → ℕ → ℤ
shift xs day = get_or xs day (pos 0)

-- the short rests that a day is part of: with the day before, which the first one lacks, and with the next
abbrev pub short_rests_at : List ℤ → ℕ → ℕ
short_rests_at xs zero = short_rest (shift xs 0) (shift xs 1)
short_rests_at xs (suc day) = short_rest (shift xs day) (shift xs (suc day)) + short_rest (shift xs (suc day)) (shift xs (suc (suc day)))

-- no more than may be told
abbrev pub capped : ℕ → ℕ
capped n = min n (2 ^ 40)

abbrev pub rest : UserRule
rest = record {
  viol_of = λ xs. capped (short_rests xs);
  viol_at = λ xs day. capped (short_rests_at xs day);
  in_range = λ xs. min-le_right (short_rests xs) (2 ^ 40);
  in_range_at = λ xs day. min-le_right (short_rests_at xs day) (2 ^ 40);
}
