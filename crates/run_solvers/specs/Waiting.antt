-- While a `with` is open, a number waits for each variable that was assigned one in it: the assignment with these in their
-- places, and the moves that they are. A rule of this project.
use Rattle.std.specs.Prelude.{ℕ, ◌+◌, ℤ, List, [], ◌∷◌, fold, slice_set, Option, Some, None}
use Rattle.cbl_base.specs.declared.ids.VarId.{VarId}

abbrev pub or_number : Option ℤ → ℤ → ℤ
or_number (Some w) z = w
or_number None z = z

abbrev pub overlaid : List ℤ → List (Option ℤ) → List ℤ
overlaid [] ws = []
overlaid (z ∷ zs) [] = z ∷ zs
overlaid (z ∷ zs) (w ∷ ws) = or_number w z ∷ overlaid zs ws

-- the moves of the variables from an index on
abbrev pub moves_from : ℕ → ℕ → List (Option ℤ) → List (VarId × ℤ)
moves_from number i [] = []
moves_from number i (Some z ∷ ws) = (record { solver = number; index = i }, z) ∷ moves_from number (i + 1) ws
moves_from number i (None ∷ ws) = moves_from number (i + 1) ws

-- what waits behind moves, of which the last one of a variable counts
abbrev pub waiting_behind : List (ℕ × ℤ) → List (Option ℤ) → List (Option ℤ)
waiting_behind moves ws = fold (λ v move. slice_set v move.0 (Some move.1)) ws moves

-- moves, by the indices of their variables
abbrev pub indexed : List (VarId × ℤ) → List (ℕ × ℤ)
indexed [] = []
indexed (m ∷ moves) = (m.0.index, m.1) ∷ indexed moves
