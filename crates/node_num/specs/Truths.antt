-- How many numbers of a list are true: aren't 0. A rule of this project.
use Rattle.std.specs.Prelude.{ℕ, ℤ, List, count_by, if◌then◌else◌}
use Rattle.cbl_operations.specs.Truth.{is_true}

abbrev pub one_if_true : ℤ → ℕ
one_if_true x = if is_true x then 1 else 0

abbrev pub truths_in : List ℤ → ℕ
truths_in xs = count_by is_true xs
