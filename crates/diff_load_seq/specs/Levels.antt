-- A level has a height and a limit, and its excess is how far the height is above the limit. The height
-- must fit 64 bits, and so must the difference. A rule of this project.
use Rattle.std.specs.Prelude.{ℕ, ℤ, pos, neg_ℤ, ◌+ℤ◌, ◌-ℤ◌, ◌≤ℤ◌, ◌^◌, ◌+◌, Bool, ◌&&◌, List, [], ◌∷◌, length, map, nat_le, nat_lt, if◌then◌else◌, slice_index_or}
use Rattle.std.specs.List.{range_with_len}
use Rattle.cbl_violations.specs.Fitting.{where_all_fit, excess}
use Rattle.diff_load_seq.specs.Parts.{Part, IsSumOf}
use Rattle.diff_load_seq.specs.declared.levels.Level.{Level}
use Rattle.diff_load_seq.specs.declared.levels.Levels.{Levels}

abbrev pub excess_over : ℤ → ℤ → Part
excess_over height limit = where_all_fit (height ∷ (height -ℤ limit) ∷ []) (excess (height -ℤ limit))

abbrev pub excess_of : Level → Part
excess_of level = excess_over level.height level.limit

abbrev pub excesses : List Level → List Part
excesses levels = map excess_of levels

-- a level that stands in no list
abbrev pub flat : Level
flat = record { height = pos 0; limit = pos 0 }

abbrev pub level_at : List Level → ℕ → Level
level_at levels k = slice_index_or levels k flat

-- those of so many levels from a place on
abbrev pub excesses_between : List Level → ℕ → ℕ → List Part
excesses_between levels first n = map (λ k. excess_of (level_at levels k)) (range_with_len first n)

-- the level with another height
abbrev pub raised : ℤ → Level → Level
raised by level = record { height = level.height +ℤ by; limit = level.limit }

-- the levels at the places from `first` up to before `last` are raised
abbrev pub is_between : ℕ → ℕ → ℕ → Bool
is_between first last k = nat_le first k && nat_lt k last

abbrev pub raised_between : ℕ → ℕ → ℤ → List Level → List Level
raised_between first last by levels =
    map (λ k. if is_between first last k then raised by (level_at levels k) else level_at levels k) (range_with_len 0 (length levels))

-- a height that may be raised once more, and by how much at once
pub record IsRaisable (level : Level) (by : ℤ) : Type 0 where
  pub low : neg_ℤ (pos (2 ^ 126 + 2 ^ 64)) ≤ℤ level.height
  pub high : level.height ≤ℤ pos (2 ^ 126 + 2 ^ 64)
  pub down : neg_ℤ (pos (2 ^ 63)) ≤ℤ by
  pub up : by ≤ℤ pos (2 ^ 63)

-- the sum that is kept is that of the excesses
abbrev pub IsKept : Levels → Type 0
IsKept levels = IsSumOf levels.excess (excesses levels.each.items)
