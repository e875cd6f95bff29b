-- Of each `window` places in a row at most `most` may have a value of the set: the sum of how many more
-- there are, over each such window. At a place whose value is in the set it is the same sum over the
-- windows that hold it, and 0 at another place. Comet's `sequence`.
use Rattle.std.specs.Prelude.{ℕ, ℤ, pos, negsuc, ◌+◌, ◌-◌, ◌-ℤ◌, List, [], ◌∷◌, ◌++◌, length, count_by, filter, Bool, true, ◌&&◌, Result, if◌then◌else◌, nat_le, nat_lt, slice_index_or, slice_range}
use Rattle.std.specs.List.{range_with_len}
use Rattle.cbl_base.specs.Sets.{is_member}
use Rattle.cbl_base.specs.Totals.{total_by}
use Rattle.cbl_base.specs.NumberRule.{NumberRule}
use Rattle.cbl_base.specs.declared.faults.RunFault.{RunFault}
use Rattle.cbl_violations.specs.Fitting.{where_all_fit, each_below, excess}

-- how many of these are in the set
abbrev pub count_in : List ℤ → List ℤ → ℕ
count_in values xs = count_by (λ x. is_member x values) xs

-- how many places a window has
abbrev pub size_of : ℤ → ℕ
size_of (pos n) = n
size_of (negsuc _) = 0

-- how many windows there are: each begins at another place
abbrev pub windows_in : ℕ → List ℤ → ℕ
windows_in size xs = length xs + 1 - size

-- how many more of the set than allowed stand in the window that begins at a place
abbrev pub surplus_in_window : List ℤ → ℤ → ℕ → List ℤ → ℕ → ℤ
surplus_in_window values most size xs start = pos (count_in values (slice_range xs start (start + size))) -ℤ most

unfoldable pub sequence_violations : List ℤ → ℤ → ℤ → List ℤ → Result ℤ RunFault
sequence_violations values most window xs =
    let size = size_of window in
    let surpluses = each_below (windows_in size xs) (surplus_in_window values most size xs) in
    where_all_fit (surpluses ++ total_by excess surpluses ∷ []) (total_by excess surpluses)

-- whether the window of this size that begins at `start` holds the place
abbrev pub holds_place : ℕ → ℕ → ℕ → Bool
holds_place size place start = nat_le start place && nat_lt place (start + size)

unfoldable pub sequence_violation_at : List ℤ → ℤ → ℤ → List ℤ → ℕ → ℤ
sequence_violation_at values most window xs place =
    let size = size_of window in
    let holding = filter (holds_place size place) (range_with_len 0 (windows_in size xs)) in
    if is_member (slice_index_or xs place (pos 0)) values
    then total_by (λ start. excess (surplus_in_window values most size xs start)) holding
    else pos 0

abbrev pub sequence : List ℤ → ℤ → ℤ → NumberRule
sequence values most window = record {
  takes = λ _. true;
  value = sequence_violations values most window;
  violation_at = sequence_violation_at values most window;
}
