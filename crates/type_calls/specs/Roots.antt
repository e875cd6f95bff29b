-- The names through which an array, a variable or an object is reached. From the language.
use Rattle.std.specs.Prelude.{ℕ, ◌+◌, Bool, true, false, List, [], ◌∷◌, ◌++◌, slice_get, unwrap_or, if◌then◌else◌}
use Rattle.checked_tree.specs.declared.expressions.Slot.{Slot}
use Rattle.checked_tree.specs.declared.expressions.Method.TheVariants as methods
use Rattle.checked_tree.specs.Shape as shapes
use Rattle.checked_tree.specs.Shape.{Shape, Seen, whole}

-- of a move, those of its selector
abbrev pub roots_of : Shape → List Slot
roots_of (shapes.typed start place k m f) = roots_of f
roots_of (shapes.name s) = s ∷ []
roots_of (shapes.parentheses e) = roots_of e
roots_of (shapes.index a i) = roots_of a
roots_of (shapes.cell a i j) = roots_of a
roots_of (shapes.conditional t a b) = roots_of a ++ roots_of b
roots_of (shapes.method methods.GetMove o es) = roots_of o
roots_of f = []

-- whether it is a name
abbrev pub is_name : Shape → Bool
is_name (shapes.name s) = true
is_name f = false

-- whether the parameter with this number is written through
abbrev pub is_flagged : List Bool → ℕ → Bool
is_flagged flags i = unwrap_or (slice_get flags i) false

-- those of the arguments at the parameters that are written through, from the parameter with this number on
abbrev pub written_roots : ℕ → List Bool → List Seen → List Slot
written_roots i flags [] = []
written_roots i flags (e ∷ es) = (if is_flagged flags i then roots_of (whole e) else []) ++ written_roots (i + 1) flags es
