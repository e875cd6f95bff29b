-- How near items are to one item, the root: the least number of steps that lead from an item to the
-- root, and the number of items for one from which none do.
use Rattle.std.specs.Prelude.{Vec, ℕ, ◌+◌, ◌<◌, ◌≤◌, ◌≡◌, ◌⊎◌, List, ◌∷◌, length}
use Rattle.std.specs.declared.alloc.Global.{Global}
use Rattle.layer_plan.specs.Dependencies.{DependsOn}
use Rattle.layer_plan.specs.Cycles.{first_or, Leads}

pub record IsNear (deps : List (Vec ℕ Global)) (near : ℕ → ℕ) (root : ℕ) : Type 0 where
  pub root_in : root < length deps
  pub at_root : near root ≡ 0
  pub only_root : (v : ℕ) → v < length deps → near v ≡ 0 → v ≡ root
  pub known : (v w : ℕ) → DependsOn deps v w → near w < length deps → near v < length deps
  pub step : (v w : ℕ) → DependsOn deps v w → near w < length deps → near v ≤ near w + 1
  pub reached : (v : ℕ) → v < length deps → 0 < near v → near v < length deps → (w : ℕ) × DependsOn deps v w × (near w + 1 ≡ near v)

-- the one is nearer, or as near and no greater
abbrev pub ComesFirst : (ℕ → ℕ) → ℕ → ℕ → Type 0
ComesFirst near v w = (near v < near w) ⊎ ((near v ≡ near w) × (v ≤ w))

-- steps lead from the one item to the other; none are needed where it is the same
abbrev pub HasWay : List (Vec ℕ Global) → ℕ → ℕ → Type 0
HasWay deps v w = (xs : List ℕ) × Leads deps xs w × (first_or xs w ≡ v)

-- items lead from the item back to it
abbrev pub LeadsBack : List (Vec ℕ Global) → ℕ → Type 0
LeadsBack deps item = (xs : List ℕ) × Leads deps (item ∷ xs) item

-- there is a cycle
abbrev pub HasCycle : List (Vec ℕ Global) → Type 0
HasCycle deps = (item : ℕ) × LeadsBack deps item

-- the least item that lies on a cycle
pub record IsLeastOnCycle (deps : List (Vec ℕ Global)) (root : ℕ) : Type 0 where
  pub root_in : root < length deps
  pub leads_back : LeadsBack deps root
  pub least : (v : ℕ) → v < root → LeadsBack deps v → ⊥
