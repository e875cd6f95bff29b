-- A path goes from an item to one that it depends on, and so on. An item's layer is the length of the
-- longest path from it.
use Rattle.std.specs.Prelude.{Vec, zero, suc, ℕ, ◌≤◌, List}
use Rattle.std.specs.declared.alloc.Global.{Global}
use Rattle.layer_plan.specs.Dependencies.{DependsOn}

-- a path of so many steps begins at the item
abbrev pub HasPath : List (Vec ℕ Global) → ℕ → ℕ → Type 0
HasPath deps item zero = Unit {0}
HasPath deps item (suc n) = (next : ℕ) × DependsOn deps item next × HasPath deps next n

-- so long is the longest path from the item
abbrev pub IsLongest : List (Vec ℕ Global) → ℕ → ℕ → Type 0
IsLongest deps item n = HasPath deps item n × ((m : ℕ) → HasPath deps item m → m ≤ n)
