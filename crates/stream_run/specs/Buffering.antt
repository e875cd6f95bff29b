-- What an output has taken, what its sink has got behind what it had, and whether the sink's count of faults has risen. A rule
-- of this project.
use Rattle.std.specs.Prelude.{ℕ, ◌++◌, drop, List, Option, Some, None, Bool, ◌||◌, nat_lt, nat_eq}
use Rattle.cbl_io.specs.Faults.{last_count}

-- what it had, where it tells that, and these bytes
abbrev pub appended : Option (List ℕ) → List ℕ → Option (List ℕ)
appended (Some bytes) piece = Some (bytes ++ piece)
appended None piece = None

-- whether a count is greater than before, or stands at its last value
abbrev pub has_risen : ℕ → ℕ → Bool
has_risen old new = nat_lt old new || nat_eq new last_count

-- what was told to the sink, and what waits behind the bytes of it that are sent
abbrev pub taken_by : List ℕ → ℕ → List ℕ → List ℕ
taken_by told sent waiting = told ++ drop sent waiting
