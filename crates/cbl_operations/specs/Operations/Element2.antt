-- `a[e,f]` is the cell of `a` in the row `e` and the column `f`, and out of range outside: both indices
-- stand first, and then the cells, row by row, of which the first has the indices `low1` and `low2`. A
-- rule of this project.
use Rattle.std.specs.Prelude.{ℕ, ℤ, pos, ◌+◌, ◌*◌, ◌==◌, drop}
use Rattle.cbl_base.specs.NumberRule.{NumberRule}
use Rattle.cbl_operations.specs.Forms.{number_at}
use Rattle.cbl_operations.specs.Cells.{place_of_index, place_in_rows, cell_at}

abbrev pub element2 : ℤ → ℕ → ℤ → ℕ → NumberRule
element2 low1 len1 low2 len2 = record {
  takes = λ n. n == len1 * len2 + 2;
  value = λ xs.
      let row = place_of_index (number_at xs 0) low1 len1 in
      let col = place_of_index (number_at xs 1) low2 len2 in
      cell_at (drop 2 xs) (place_in_rows row col len2);
  violation_at = λ _ _. pos 0;
}
