-- Lists of ids that a store can be built of.
use Rattle.std.specs.Prelude.{◌≡◌, ℕ, ◌+◌, ◌<◌, ◌≤◌, List, length, take, All, Vec}
use Rattle.std.specs.declared.alloc.Global.{Global}

-- no list is longer than this, and each id in them is below the count
abbrev pub AreWithin : ℕ → ℕ → List (Vec ℕ Global) → Type 0
AreWithin count most lists = All (λ (v : Vec ℕ Global). (length v.items ≤ most) × All (λ i. i < count) v.items) lists

-- the lists are those of so many cells and nodes, and a cell takes the value of one id at most
pub record AreLists (lists : List (Vec ℕ Global)) (cells nodes : ℕ) : Type 0 where
  pub few : length lists < 4294967296
  pub count : cells + nodes ≡ length lists
  pub within : AreWithin (length lists) 1000 lists
  pub single : AreWithin (length lists) 1 (take cells lists)
