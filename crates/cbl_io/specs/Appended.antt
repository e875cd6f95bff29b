-- What a sink has taken, where it tells it.
use Rattle.std.specs.Prelude.{◌≡◌, ◌++◌, ℕ, List, Option, Some, None}

-- the new bytes are the old ones and this piece
abbrev pub Appends : Option (List ℕ) → Option (List ℕ) → List ℕ → Type 0
Appends None new piece = new ≡ None
Appends (Some old) new piece = new ≡ Some (old ++ piece)

-- the new bytes are the old ones and some front of this piece
abbrev pub AppendsFront : Option (List ℕ) → Option (List ℕ) → List ℕ → Type 0
AppendsFront old new piece = (front : List ℕ) × (rest : List ℕ) × (piece ≡ front ++ rest) × Appends old new front
