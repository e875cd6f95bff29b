-- Values that are read without a look at a solver or at memory: a number, a truth value, a range, and an array by its
-- number. What a cell holds is answered only where it is such a value. A rule of this project.
use Rattle.std.specs.Prelude.{◌≡◌, ℤ, Option, Some, None}
use Rattle.comet_meaning.specs.Values as meant
use Rattle.comet_meaning.specs.Values.{Number}
use Rattle.run_values.specs.declared.values.Value.{Value}
use Rattle.run_values.specs.Views.{value_seen}

abbrev pub IsPlain : meant.Value → Type 0
IsPlain (meant.Number z) = Unit {0}
IsPlain (meant.Truth b) = Unit {0}
IsPlain (meant.Range b) = Unit {0}
IsPlain (meant.Array n) = Unit {0}
IsPlain v = ⊥

-- an answer that is this value, and plain
abbrev pub IsHeld : Option Value → meant.Value → Type 0
IsHeld None held = Unit {0}
IsHeld (Some v) held = (held ≡ value_seen v) × IsPlain (value_seen v)

-- an answer that is this value, a number
abbrev pub IsHeldNumber : Option ℤ → meant.Value → Type 0
IsHeldNumber None held = Unit {0}
IsHeldNumber (Some z) held = held ≡ Number z
