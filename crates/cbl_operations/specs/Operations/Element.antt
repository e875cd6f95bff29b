-- `a[e]` is the cell of `a` at the index `e`, and out of range outside: the index stands first, and then
-- the cells, of which the first has the index `low`. A rule of this project.
use Rattle.std.specs.Prelude.{ℕ, ℤ, pos, ◌+◌, ◌==◌, drop}
use Rattle.cbl_base.specs.NumberRule.{NumberRule}
use Rattle.cbl_operations.specs.Forms.{number_at}
use Rattle.cbl_operations.specs.Cells.{place_of_index, cell_at}

abbrev pub element : ℤ → ℕ → NumberRule
element low len = record {
  takes = λ n. n == len + 1;
  value = λ xs. cell_at (drop 1 xs) (place_of_index (number_at xs 0) low len);
  violation_at = λ _ _. pos 0;
}
