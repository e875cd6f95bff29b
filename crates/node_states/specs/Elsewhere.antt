-- Whether a change is at another place. A rule of this project.
use Rattle.std.specs.Prelude.{Bool, ℕ, not, ◌==◌}
use Rattle.cbl_base.specs.Changes.{place_of}
use Rattle.cbl_base.specs.declared.input.Change.{Change}

abbrev pub is_elsewhere : ℕ → Change → Bool
is_elsewhere place c = not (place_of c == place)
