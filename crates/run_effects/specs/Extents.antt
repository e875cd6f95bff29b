-- The dimensions of an array while its cells get their numbers. A rule of this project.
use Rattle.std.specs.Prelude.{ℕ, suc, ℤ, List, [], ◌∷◌, ◌++◌, nat_le, Option, if◌then◌else◌}
use Rattle.checked_tree.specs.declared.expressions.Slot.{Slot}
use Rattle.comet_meaning.specs.Values.{Range}
use Rattle.comet_meaning.specs.Outcome.{Act, ◌>>=◌, each_in, always}
use Rattle.comet_meaning.specs.Declarations.{Dimension, each_cell, put_named}
use Rattle.run_values.specs.Views.{bounds_seen}
use Rattle.run_effects.specs.declared.cells.Extent.{Extent}

abbrev pub extent_seen : Extent → Dimension
extent_seen e = record { slot = e.slot; bounds = bounds_seen e.bounds }

-- what is done at one index of a dimension with this name, with the dimensions behind it; the indices before it are told
abbrev pub at_index : {A : Type 0} → (List ℤ → A → Act A) → Option Slot → List Dimension → List ℤ → ℤ → A → Act A
at_index visit slot later is z x = put_named slot z >>= λ _. each_cell visit later (is ++ z ∷ []) x

-- what is done at each index of a dimension, with the dimensions behind it
abbrev pub along : {A : Type 0} → (List ℤ → A → Act A) → Dimension → List Dimension → List ℤ → A → Act A
along visit d later is x = each_in always (λ z y. at_index visit d.slot later is z y) (Range d.bounds) x

-- a count, and one more than the most for any that is greater
abbrev pub capped : ℕ → ℕ → ℕ
capped most n = if nat_le n most then n else suc most
