-- An item depends on another where that one stands in the item's list. An item is named by its number,
-- from 0, and its list stands at that place.
use Rattle.std.specs.Prelude.{Vec, zero, suc, ℕ, ◌<◌, List, [], ◌∷◌, length}
use Rattle.std.specs.List.{Contains}
use Rattle.std.specs.declared.alloc.Global.{Global}

-- an item's list, and none for a number that no item has
unfoldable pub list_of : List (Vec ℕ Global) → ℕ → List ℕ
list_of [] item = []
list_of (list ∷ lists) zero = list.items
list_of (list ∷ lists) (suc item) = list_of lists item

unfoldable pub DependsOn : List (Vec ℕ Global) → ℕ → ℕ → Type 0
DependsOn deps item next = Contains (list_of deps item) next

-- what stands in the lists are items
abbrev pub AreItems : List (Vec ℕ Global) → Type 0
AreItems deps = (item next : ℕ) → DependsOn deps item next → next < length deps
