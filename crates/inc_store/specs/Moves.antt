-- Moves of free cells to numbers.
use Rattle.std.specs.Prelude.{◌⊎◌, ◌≡◌, ℕ, ℤ, ◌<◌, Bool, true, false, cond, nat_eq, ◌||◌, List, [], ◌∷◌}
use Rattle.cbl_base.specs.Inputs.{kind_of}
use Rattle.cbl_base.specs.declared.ids.VarId.{VarId}
use Rattle.cbl_base.specs.declared.input.Input.{Input}
use Rattle.cbl_base.specs.declared.input.Input.TheVariants.{Int}
use Rattle.store_turns.specs.declared.frame.Frame.{Frame}
use Rattle.store_turns.specs.Meaning.{Graph, layer_of}
use Rattle.store_build.specs.Frames.{cell_of}
use Rattle.inc_store.specs.Course.{Trace, NotBefore, first_front}

-- whether an id is moved; the field `solver` isn't looked at
abbrev pub is_moved : List (VarId × ℤ) → ℕ → Bool
is_moved [] id = false
is_moved (m ∷ ms) id = nat_eq m.0.index id || is_moved ms id

-- the values after the moves: each moved id has its number, and each other the value that it had
abbrev pub moved_to : List (VarId × ℤ) → (ℕ → Input) → ℕ → Input
moved_to [] before id = before id
moved_to (m ∷ ms) before id = cond (nat_eq m.0.index id) (Int m.1) (moved_to ms before id)

-- the moves are of free cells, no two of one
abbrev pub AreMoves : Graph → List (VarId × ℤ) → Type 0
AreMoves g [] = Unit {0}
AreMoves g (m ∷ ms) = (m.0.index < g.size) × (g.is_free m.0.index ≡ true) × (is_moved ms m.0.index ≡ false) × AreMoves g ms

-- an id is still to be moved; and its turn is to come, while some are
abbrev pub IsToMove : List (VarId × ℤ) → ℕ → Type 0
IsToMove ms id = is_moved ms id ≡ true

abbrev pub LaterThanMoves : Frame → List (VarId × ℤ) → ℕ → Type 0
LaterThanMoves frame ms id = NotBefore first_front (layer_of frame) id ⊎ IsToMove ms id

-- what a commit of these moves is measured by
abbrev pub trace_of : List Input → List (VarId × ℤ) → ℕ → Trace
trace_of cells ms base = record { kinds = λ j. kind_of (cell_of cells j); before = cell_of cells; moved = is_moved ms; target = moved_to ms (cell_of cells); base = base }
