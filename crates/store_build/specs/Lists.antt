-- Lists of lists, and lists of places that may be empty.
use Rattle.std.specs.Prelude.{ℕ, List, [], slice_index_or, Vec}
use Rattle.store_turns.specs.Meaning.{lists_of}

-- the list at a place, and none past the last
abbrev pub list_in : {A Z : Type 0} → List (Vec A Z) → ℕ → List A
list_in lists i = slice_index_or (lists_of lists) i []
