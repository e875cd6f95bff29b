-- The bins of a multiknapsack as levels: the height of each is its load, and its limit is its capacity. A
-- rule of this project.
use Rattle.std.specs.Prelude.{◌≡◌, ℕ, ℤ, ◌<◌, ◌≤ℤ◌, ◌^◌, neg_ℤ, FitsSigned, pos, negsuc, ◌+ℤ◌, ◌-ℤ◌, List, length, map, Option, Some, None, nat_lt, if◌then◌else◌, slice_index_or}
use Rattle.std.specs.List.{range_with_len}
use Rattle.std.specs.Int.{w64}
use Rattle.std.specs.Ordering.{int_eq}
use Rattle.cbl_base.specs.Totals.{total_by}
use Rattle.cbl_violations.specs.Violations.MultiKnapsack.{size_in}
use Rattle.node_base.specs.declared.number_change.NumberChange.{NumberChange}
use Rattle.diff_load_seq.specs.Levels.{level_at, raised, IsKept}
use Rattle.diff_load_seq.specs.declared.levels.Level.{Level}
use Rattle.diff_load_seq.specs.declared.levels.Levels.{Levels}

-- the place of a bin among so many, of which the first is `low`
abbrev pub index_below : ℕ → ℤ → Option ℕ
index_below bins (pos k) = if nat_lt k bins then Some k else None
index_below bins (negsuc _) = None

abbrev pub place_of_bin : ℤ → ℕ → ℤ → Option ℕ
place_of_bin low bins bin = index_below bins (bin -ℤ low)

-- the load of a bin, of the first n items
abbrev pub load_of_first : ℕ → ℤ → List ℤ → List ℤ → ℤ
load_of_first n bin sizes xs = total_by (size_in bin sizes xs) (range_with_len 0 n)

abbrev pub bin_of_first : ℕ → List ℤ → ℤ → List ℤ → List ℤ → ℕ → Level
bin_of_first n sizes low capacities xs k = record { height = load_of_first n (low +ℤ pos k) sizes xs; limit = slice_index_or capacities k (pos 0) }

abbrev pub bins_of_first : ℕ → List ℤ → ℤ → List ℤ → List ℤ → List Level
bins_of_first n sizes low capacities xs = map (bin_of_first n sizes low capacities xs) (range_with_len 0 (length capacities))

-- all of them
abbrev pub bins_of : List ℤ → ℤ → List ℤ → List ℤ → List Level
bins_of sizes low capacities xs = bins_of_first (length xs) sizes low capacities xs

-- the bin's level is raised, if it is one
abbrev pub bin_raised : ℤ → ℤ → ℤ → List Level → List Level
bin_raised low bin by levels =
    map (λ k. if int_eq bin (low +ℤ pos k) then raised by (level_at levels k) else level_at levels k) (range_with_len 0 (length levels))

-- bins in which nothing is yet
pub record IsEmptied (bins : Levels) (capacities : List ℤ) : Type 0 where
  pub each : bins.each.items ≡ map (λ capacity. record { height = pos 0; limit = capacity }) capacities
  pub kept : IsKept bins

-- the first n sizes have 64 bits
abbrev pub AllFit : ℕ → List ℤ → Type 0
AllFit n sizes = (k : ℕ) → k < n → FitsSigned w64 (slice_index_or sizes k (pos 0))

-- an item of this size goes from its old bin to its new one
abbrev pub item_moved : ℤ → ℤ → NumberChange → List Level → List Level
item_moved low size c levels = bin_raised low c.new size (bin_raised low c.old (pos 0 -ℤ size) levels)

-- the heights have 126 bits
pub record IsLow (level : Level) : Type 0 where
  pub low : neg_ℤ (pos (2 ^ 126)) ≤ℤ level.height
  pub high : level.height ≤ℤ pos (2 ^ 126)

abbrev pub AreLow : List Level → Type 0
AreLow levels = (k : ℕ) → k < length levels → IsLow (level_at levels k)
