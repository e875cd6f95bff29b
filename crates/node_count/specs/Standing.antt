-- Whether a number is the one that is counted, as 1 or 0. A rule of this project.
use Rattle.std.specs.Prelude.{ℕ, ℤ, if◌then◌else◌}
use Rattle.std.specs.Ordering.{int_eq}

abbrev pub one_where : ℤ → ℤ → ℕ
one_where counted x = if int_eq x counted then 1 else 0
