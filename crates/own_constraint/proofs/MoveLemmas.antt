-- Moves are within the list, and leave it as long as it is.
use Rattle.std.proofs.Common.{ℕ, zero, suc, ℤ, ◌≡◌, ◌<◌, ◌∙◌, List, [], ◌∷◌, length, get_or, slice_set, refl, arith}
use Rattle.std.proofs.lemmas.List.{length-set}
use Rattle.user_constraint.specs.Moves.{AreMoves, after_moves}

pub move_within : (n : ℕ) (ms : List (ℕ × ℤ)) (i : ℕ) (d : ℕ × ℤ) → AreMoves n ms → i < length ms → (get_or ms i d).0 < n
move_within n [] i d h lt = absurd (omega (arith, lt))
move_within n (m ∷ ms) zero d h lt = h.0
move_within n (m ∷ ms) (suc i) d h lt = move_within n ms i d h.2 (omega (arith, lt))

pub length_after : (xs : List ℤ) (ms : List (ℕ × ℤ)) → length (after_moves xs ms) ≡ length xs
length_after xs [] = refl
length_after xs (m ∷ ms) = length_after (slice_set xs m.0 m.1) ms ∙ length-set xs m.0 m.1
