-- Levels as raises would make them: some are kept, by their places, in front of the levels that stay. A
-- rule of this project.
use Rattle.std.specs.Prelude.{ℕ, List, length, map, unwrap_or}
use Rattle.std.specs.List.{range_with_len}
use Rattle.std.specs.Ordering.{nat_cmp}
use Rattle.std.specs.BTreeMap.{get}
use Rattle.diff_load_seq.specs.Parts.{IsSumOf}
use Rattle.diff_load_seq.specs.Levels.{level_at, excesses}
use Rattle.diff_load_seq.specs.declared.levels.Level.{Level}
use Rattle.diff_load_seq.specs.declared.levels_over.LevelsOver.{LevelsOver}

-- the level at a place: as it is kept, or else as it stands
abbrev pub level_over : List Level → LevelsOver → ℕ → Level
level_over levels over k = unwrap_or (get nat_cmp over.raised k) (level_at levels k)

-- all of them
abbrev pub shown : List Level → LevelsOver → List Level
shown levels over = map (level_over levels over) (range_with_len 0 (length levels))

-- the sum that is kept is that of the excesses
abbrev pub IsKeptOver : List Level → LevelsOver → Type 0
IsKeptOver levels over = IsSumOf over.excess (excesses (shown levels over))
