-- Numbers that are read: those that are small enough, and those that fit 64 bits signed. A rule of this project.
use Rattle.std.specs.Prelude.{ℕ, ℤ, nat_le, Option, Some, None, if◌then◌else◌}
use Rattle.cbl_base.specs.Arithmetic.{fits_64}

-- a number that is at most this
abbrev pub at_most : ℕ → Option ℕ → Option ℕ
at_most most None = None
at_most most (Some n) = if nat_le n most then Some n else None

-- a number that fits
abbrev pub that_fits : Option ℤ → Option ℤ
that_fits None = None
that_fits (Some z) = if fits_64 z then Some z else None
