-- Which slots depend on a variable, from those whose argument names it: these, and those that depend on a variable whose
-- definition names it. A rule of this project.
use Rattle.std.specs.Prelude.{◌≡◌, ℕ, ◌<◌, ◌||◌, Bool, List, length, nat_eq}
use Rattle.std.specs.List.{Contains, list_any}
use Rattle.model_values.specs.Dependence.{var_depends}
use Rattle.term_model.specs.Definitions.{DependsOn}
use Rattle.term_model.specs.declared.model.Model.{Model}
use Rattle.store_shares.specs.Slots.{slot_at}

-- whether a slot's argument names a variable, and whether it depends on it
abbrev pub names_in : List (List ℕ) → ℕ → ℕ → Bool
names_in slots x k = list_any (λ d. nat_eq d x) (slot_at slots k)

abbrev pub depends_in : Model → List (List ℕ) → ℕ → ℕ → Bool
depends_in M slots x k = list_any (var_depends M x) (slot_at slots k)

-- the variables whose definitions name a variable
pub record AreUsers (M : Model) (users : ℕ → List ℕ) : Type 0 where
  pub each : (u x : ℕ) → u < length M.vars.items → DependsOn M u x → Contains (users x) u
  pub only : (x u : ℕ) → Contains (users x) u → (u < length M.vars.items) × DependsOn M u x

-- those of a variable are its own and those of its users
abbrev pub Closes : (ℕ → ℕ → Bool) → (ℕ → ℕ → Bool) → (ℕ → List ℕ) → ℕ → Type 0
Closes all own users count = (x k : ℕ) → x < count → all x k ≡ (own x k || list_any (λ u. all u k) (users x))
