-- The cell of an array at an index that counts from `low`: an index outside is out of range. A rule of
-- this project.
use Rattle.std.specs.Prelude.{ℕ, ℤ, pos, negsuc, ◌-ℤ◌, ◌+◌, ◌*◌, nat_lt, List, Option, Some, None, Result, Ok, Err, if◌then◌else◌, option_and_then}
use Rattle.cbl_base.specs.declared.faults.RunFault.{RunFault}
use Rattle.cbl_base.specs.declared.faults.RunFault.TheVariants.{OutOfRange}
use Rattle.cbl_operations.specs.Forms.{number_at}

-- a number as a place, where it is one of so many
abbrev pub as_place : ℤ → ℕ → Option ℕ
as_place (pos k) len = if nat_lt k len then Some k else None
as_place (negsuc k) len = None

-- the place from 0 that an index from `low` means, where it is one of so many
abbrev pub place_of_index : ℤ → ℤ → ℕ → Option ℕ
place_of_index index low len = as_place (index -ℤ low) len

-- the place of a row and a column among all cells, which stand row by row
abbrev pub place_in_rows : Option ℕ → Option ℕ → ℕ → Option ℕ
place_in_rows row col width = option_and_then (λ r. option_and_then (λ c. Some (r * width + c)) col) row

-- the cell at a place
abbrev pub cell_at : List ℤ → Option ℕ → Result ℤ RunFault
cell_at cells (Some k) = Ok (number_at cells k)
cell_at cells None = Err OutOfRange
