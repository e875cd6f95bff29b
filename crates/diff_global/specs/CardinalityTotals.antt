-- Over the bounded values of a list, the sum of the violations that they make, and how many of them
-- differ from their bound by a number that doesn't fit 64 bits. A rule of this project.
use Rattle.std.specs.Prelude.{◌≡◌, ◌≢◌, ℕ, ℤ, pos, ◌+ℤ◌, ◌≤ℤ◌, ◌<◌, ◌^◌, List, length, sum_by, slice_index_or, All, FitsSigned}
use Rattle.std.specs.Int.{w64}
use Rattle.std.specs.List.{range_with_len}
use Rattle.cbl_base.specs.Counts.{count_of}
use Rattle.cbl_base.specs.Totals.{total_by}
use Rattle.node_base.specs.declared.number_change.NumberChange.{NumberChange}
use Rattle.node_base.specs.declared.tally.Elsewhere.{Elsewhere}
use Rattle.node_base.specs.NumberChanges.{IsNumberChange}
use Rattle.node_base.specs.Counting.{IsElsewhere}
use Rattle.diff_global.specs.declared.cardinality.Demand.{Demand}
use Rattle.diff_global.specs.declared.cardinality.Totals.{Totals}
use Rattle.diff_global.specs.Differences.{differs_by, part, misfit}

-- what the value differs by whose bound is the k-th
abbrev pub difference_at : Demand → ℤ → List ℤ → List ℤ → ℕ → ℤ
difference_at demand low bounds xs k = differs_by demand (count_of (low +ℤ pos k) xs) (slice_index_or bounds k (pos 0))

pub record AreTotals (demand : Demand) (low : ℤ) (bounds xs : List ℤ) (totals : Totals) : Type 0 where
  pub sum : totals.sum ≡ total_by (λ k. part demand (difference_at demand low bounds xs k)) (range_with_len 0 (length bounds))
  pub misfits : totals.misfits ≡ sum_by (λ k. misfit (difference_at demand low bounds xs k)) (range_with_len 0 (length bounds))

-- the value stands so often in the one list, so often in the other, and each other number as often in both
pub record IsShifted (xs ys : List ℤ) (value : ℤ) (before after : ℕ) : Type 0 where
  pub first : count_of value xs ≡ before
  pub second : count_of value ys ≡ after
  pub others : (v : ℤ) → v ≢ value → count_of v ys ≡ count_of v xs

-- each bound fits 64 bits, and there are fewer than 2^61 of them
pub record AreBounds (bounds : List ℤ) : Type 0 where
  pub each : All (λ x. FitsSigned w64 x) bounds
  pub few : length bounds < 2 ^ 61

-- the totals are far from the edges of 128 and of 64 bits
pub record AreRoomy (totals : Totals) : Type 0 where
  pub low : pos 0 ≤ℤ totals.sum
  pub high : totals.sum ≤ℤ pos (2 ^ 126)
  pub misfits : totals.misfits < 2 ^ 62

-- there is a list that is short enough, of which these are the totals, and at the other places of the
-- change its numbers stand so often
abbrev pub HaveList : Demand → ℤ → List ℤ → NumberChange → Elsewhere → Totals → Type 0
HaveList demand low bounds c e totals =
    (xs : List ℤ) × IsNumberChange xs c × IsElsewhere xs c e × AreTotals demand low bounds xs totals × (length xs < 2 ^ 61)
