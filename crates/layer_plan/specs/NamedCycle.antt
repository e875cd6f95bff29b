-- The cycle that is told: it begins at the least item that lies on a cycle, no cycle that begins there
-- is shorter, and among those as short it is the first in the order of lists. A rule of this project.
use Rattle.std.specs.Prelude.{Vec, ℕ, ◌<◌, ◌≤◌, ◌≡◌, ◌⊎◌, List, [], ◌∷◌, length}
use Rattle.std.specs.List.{Contains}
use Rattle.std.specs.declared.alloc.Global.{Global}
use Rattle.layer_plan.specs.Cycles.{first_or, IsCycle}
use Rattle.layer_plan.specs.declared.stop.PlanStop.{PlanStop}
use Rattle.layer_plan.specs.declared.stop.PlanStop.TheVariants.{Cycle, NoMemory}

-- the list is the other, or stands before it in the order of lists
abbrev pub IsNoLater : List ℕ → List ℕ → Type 0
IsNoLater [] ys = Unit {0}
IsNoLater (x ∷ xs) [] = ⊥
IsNoLater (x ∷ xs) (y ∷ ys) = (x < y) ⊎ ((x ≡ y) × IsNoLater xs ys)

pub record IsNamedCycle (deps : List (Vec ℕ Global)) (list : List ℕ) : Type 0 where
  pub cycle : IsCycle deps list
  pub least : (other : List ℕ) (item : ℕ) → IsCycle deps other → Contains other item → first_or list 0 ≤ item
  pub shortest : (other : List ℕ) → IsCycle deps other → first_or other 0 ≡ first_or list 0 → length list ≤ length other
  pub earliest : (other : List ℕ) → IsCycle deps other → first_or other 0 ≡ first_or list 0 → length other ≡ length list → IsNoLater list other

-- a cycle that is told is the named one
abbrev pub IsNamedStop : List (Vec ℕ Global) → PlanStop → Type 0
IsNamedStop deps (Cycle list) = IsNamedCycle deps list.items
IsNamedStop deps NoMemory = Unit {0}
