-- Which items depend on an item: its users. They are lists like those of the dependencies.
use Rattle.std.specs.Prelude.{Vec, ℕ, ◌≡◌, ◌⊎◌, List, length}
use Rattle.std.specs.declared.alloc.Global.{Global}
use Rattle.layer_plan.specs.Dependencies.{DependsOn}

-- the users, with those that were added
pub record Adds (old new : List (Vec ℕ Global)) (Added : ℕ → ℕ → Type 0) : Type 0 where
  pub count : length new ≡ length old
  pub kept : (w v : ℕ) → DependsOn old w v → DependsOn new w v
  pub added : (w v : ℕ) → Added w v → DependsOn new w v
  pub only : (w v : ℕ) → DependsOn new w v → DependsOn old w v ⊎ Added w v

-- each item's users are the items that depend on it
pub record AreUses (deps uses : List (Vec ℕ Global)) : Type 0 where
  pub count : length uses ≡ length deps
  pub each : (v w : ℕ) → DependsOn deps v w → DependsOn uses w v
  pub only : (v w : ℕ) → DependsOn uses w v → DependsOn deps v w
