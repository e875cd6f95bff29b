-- The best of keys: there is none where any candidate will do; else it is the least, or the greatest, of all. A rule of
-- this project.
use Rattle.std.specs.Prelude.{ℤ, Bool, true, List, Option, Some, None}
use Rattle.std.specs.Int.{int_max, int_min}
use Rattle.std.specs.List.{reduce}
use Rattle.std.specs.Option.{option_eq}
use Rattle.std.specs.Ordering.{int_eq}
use Rattle.ls_select.specs.declared.want.Want.{Want}
use Rattle.ls_select.specs.declared.want.Want.TheVariants.{Any, Least, Greatest}

-- the best of some keys
abbrev pub best_of : Want → List ℤ → Option ℤ
best_of Any keys = None
best_of Least keys = reduce int_min keys
best_of Greatest keys = reduce int_max keys

-- a key is as good as this best one
abbrev pub is_best : Want → Option ℤ → ℤ → Bool
is_best Any best key = true
is_best Least best key = option_eq int_eq (Some key) best
is_best Greatest best key = option_eq int_eq (Some key) best

-- the best of one key
abbrev pub best_of_key : Want → ℤ → Option ℤ
best_of_key Any key = None
best_of_key Least key = Some key
best_of_key Greatest key = Some key

-- the better of the best keys of two lists
abbrev pub better_of : Want → Option ℤ → Option ℤ → Option ℤ
better_of want None later = later
better_of want (Some a) None = Some a
better_of Any (Some a) (Some b) = None
better_of Least (Some a) (Some b) = Some (int_min a b)
better_of Greatest (Some a) (Some b) = Some (int_max a b)
