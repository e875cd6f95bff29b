-- The changes so far, and one at a place, where the number there becomes another.
use Rattle.std.specs.Prelude.{ℕ, ℤ, List, [], ◌∷◌, ◌++◌, if◌then◌else◌}
use Rattle.std.specs.Ordering.{int_eq}
use Rattle.cbl_base.specs.declared.input.Change.{Change}
use Rattle.cbl_base.specs.declared.input.Change.TheVariants.{Int}

abbrev pub with_change : List Change → ℕ → ℤ → ℤ → List Change
with_change changes place old new = if int_eq old new then changes else changes ++ Int place old new ∷ []
