-- A move is a place of a list and the number that comes to stand there. A rule of this project.
use Rattle.std.specs.Prelude.{◌≡◌, ◌≢◌, ℕ, ℤ, ◌<◌, true, List, [], ◌∷◌, fold, map, slice_set}
use Rattle.node_base.specs.declared.number_change.NumberChange.{NumberChange}
use Rattle.user_constraint.specs.KeptRule.{half, is_below, size_of}

-- the numbers after a move, and after each of several
abbrev pub after_move : List ℤ → ℕ × ℤ → List ℤ
after_move xs m = slice_set xs m.0 m.1

abbrev pub after_moves : List ℤ → List (ℕ × ℤ) → List ℤ
after_moves xs ms = fold after_move xs ms

-- none of the moves is at the place
abbrev pub NoMoveAt : ℕ → List (ℕ × ℤ) → Type 0
NoMoveAt place [] = Unit {0}
NoMoveAt place (m ∷ ms) = (m.0 ≢ place) × NoMoveAt place ms

-- each is at a place below the length, and no two are at one place
abbrev pub AreMoves : ℕ → List (ℕ × ℤ) → Type 0
AreMoves count [] = Unit {0}
AreMoves count (m ∷ ms) = (m.0 < count) × NoMoveAt m.0 ms × AreMoves count ms

-- a change as a move, and each of several
abbrev pub move_of : NumberChange → ℕ × ℤ
move_of c = (c.place, c.new)

abbrev pub moves_of : List NumberChange → List (ℕ × ℤ)
moves_of cs = map move_of cs

-- each is to a 64-bit number
abbrev pub AreToKept : List NumberChange → Type 0
AreToKept [] = Unit {0}
AreToKept (c ∷ cs) = (is_below (size_of c.new) half ≡ true) × AreToKept cs
