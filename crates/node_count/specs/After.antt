-- The number at a place after changes is the new number of the last change there, and else what it was. A
-- rule of this project.
use Rattle.std.specs.Prelude.{ℕ, ℤ, ◌==◌, List, fold, if◌then◌else◌}
use Rattle.node_base.specs.declared.number_change.NumberChange.{NumberChange}

abbrev pub number_after_one : ℕ → ℤ → NumberChange → ℤ
number_after_one place x c = if c.place == place then c.new else x

abbrev pub number_after : ℕ → ℤ → List NumberChange → ℤ
number_after place x changes = fold (number_after_one place) x changes
