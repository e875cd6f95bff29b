-- Tables of counts, read as how often each number stands somewhere: a map, and a list for the numbers of
-- a window with a map for the others. A rule of this project.
use Rattle.std.specs.Prelude.{◌≡◌, ℕ, ℤ, pos, negsuc, ◌-ℤ◌, nat_lt, List, length, get_or, Option, Some, None, unwrap_or, if◌then◌else◌}
use Rattle.std.specs.BTreeMap.{get}
use Rattle.std.specs.Ordering.{int_cmp}
use Rattle.cbl_base.specs.Counts.{count_of}
use Rattle.node_base.specs.declared.counts.Counts.{Counts}
use Rattle.node_base.specs.declared.ordered_counts.OrderedCounts.{OrderedCounts}

-- the count of a number in a map, 0 where there is none
abbrev pub times_kept : OrderedCounts → ℤ → ℕ
times_kept counts v = unwrap_or (get int_cmp counts.by_number v) 0

-- a number as a place, where it is one of so many
abbrev pub as_place : ℤ → ℕ → Option ℕ
as_place (pos k) len = if nat_lt k len then Some k else None
as_place (negsuc k) len = None

-- the place from 0 of a number in the window of so many numbers from `low` on
abbrev pub place_in_window : ℤ → ℕ → ℤ → Option ℕ
place_in_window low len v = as_place (v -ℤ low) len

-- the count at a place of the window, or, of a number without a place, that outside
abbrev pub count_at : List ℕ → (ℤ → ℕ) → ℤ → Option ℕ → ℕ
count_at window outside v (Some place) = get_or window place 0
count_at window outside v None = outside v

abbrev pub counted : ℤ → List ℕ → (ℤ → ℕ) → ℤ → ℕ
counted low window outside v = count_at window outside v (place_in_window low (length window) v)

-- the count of a number, 0 where there is none
abbrev pub times_in : Counts → ℤ → ℕ
times_in counts v = counted counts.low counts.window.items (times_kept counts.outside) v

-- these are the counts of the list
abbrev pub AreCountsOf : (ℤ → ℕ) → List ℤ → Type 0
AreCountsOf times xs = (v : ℤ) → times v ≡ count_of v xs
