-- The cycle that is named where variables depend on one another in a circle: it begins at the least variable that lies
-- on a cycle, no cycle that begins there is shorter, and among those as short it is the first in the order of lists. A
-- cycle is a list of distinct variables, at least one, each of which depends on the next and the last on the first. A
-- rule of this project.
use Rattle.std.specs.Prelude.{◌≡◌, ℕ, ◌≤◌, List, [], ◌∷◌, length}
use Rattle.std.specs.List.{Contains}
use Rattle.layer_plan.specs.Cycles.{IsDistinct, first_or}
use Rattle.layer_plan.specs.NamedCycle.{IsNoLater}
use Rattle.term_model.specs.Cycles.{Leads}
use Rattle.term_model.specs.declared.model.Model.{Model}

abbrev pub IsCycle : Model → List ℕ → Type 0
IsCycle M [] = ⊥
IsCycle M (x ∷ xs) = IsDistinct (x ∷ xs) × Leads M (x ∷ xs) x

pub record IsNamedCycle (M : Model) (list : List ℕ) : Type 0 where
  pub cycle : IsCycle M list
  pub least : (other : List ℕ) (i : ℕ) → IsCycle M other → Contains other i → first_or list 0 ≤ i
  pub shortest : (other : List ℕ) → IsCycle M other → first_or other 0 ≡ first_or list 0 → length list ≤ length other
  pub earliest : (other : List ℕ) → IsCycle M other → first_or other 0 ≡ first_or list 0 → length other ≡ length list → IsNoLater list other
