-- The windows of a sequence as levels: the height of each is its count of the set's values, and its limit
-- is the most that are allowed. A rule of this project.
use Rattle.std.specs.Prelude.{ℕ, ℤ, pos, ◌+◌, ◌-◌, ◌-ℤ◌, List, length, map, min, if◌then◌else◌, slice_range}
use Rattle.std.specs.List.{range_with_len}
use Rattle.cbl_base.specs.Sets.{is_member}
use Rattle.cbl_violations.specs.Violations.Sequence.{count_in, windows_in}
use Rattle.node_base.specs.declared.number_change.NumberChange.{NumberChange}
use Rattle.diff_load_seq.specs.Levels.{raised_between}
use Rattle.diff_load_seq.specs.declared.levels.Level.{Level}

abbrev pub window_of : List ℤ → ℤ → ℕ → List ℤ → ℕ → Level
window_of values most size xs start = record { height = pos (count_in values (slice_range xs start (start + size))); limit = most }

abbrev pub windows_of : List ℤ → ℤ → ℕ → List ℤ → List Level
windows_of values most size xs = map (window_of values most size xs) (range_with_len 0 (windows_in size xs))

-- 1 for a value of the set
abbrev pub one_in : List ℤ → ℤ → ℕ
one_in values x = if is_member x values then 1 else 0

-- how many more values of the set stand at the place of a change after it
abbrev pub gain_of : List ℤ → NumberChange → ℤ
gain_of values c = pos (one_in values c.new) -ℤ pos (one_in values c.old)

-- the first window that holds a place, and the one behind the last
abbrev pub first_holding : ℕ → ℕ → ℕ
first_holding size place = place + 1 - size

abbrev pub last_holding : ℕ → ℕ → ℕ
last_holding place windows = min (place + 1) windows

-- the windows after a change
abbrev pub number_moved : List ℤ → ℕ → NumberChange → List Level → List Level
number_moved values size c windows = raised_between (first_holding size c.place) (last_holding c.place (length windows)) (gain_of values c) windows
