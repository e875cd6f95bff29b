-- A cycle is a list of distinct items, at least one, each of which depends on the next and the last on
-- the first.
use Rattle.std.specs.Prelude.{Vec, ℕ, ◌≡◌, List, [], ◌∷◌}
use Rattle.std.specs.declared.alloc.Global.{Global}
use Rattle.layer_plan.specs.Dependencies.{DependsOn}

-- a list's first item, and `other` for the empty list
abbrev pub first_or : List ℕ → ℕ → ℕ
first_or [] other = other
first_or (x ∷ xs) other = x

-- no item of the list is this one
abbrev pub Lacks : List ℕ → ℕ → Type 0
Lacks [] x = Unit {0}
Lacks (y ∷ ys) x = ¬ (y ≡ x) × Lacks ys x

abbrev pub IsDistinct : List ℕ → Type 0
IsDistinct [] = Unit {0}
IsDistinct (x ∷ xs) = Lacks xs x × IsDistinct xs

-- each item of the list depends on the next, and the last on `end`
abbrev pub Leads : List (Vec ℕ Global) → List ℕ → ℕ → Type 0
Leads deps [] end = Unit {0}
Leads deps (x ∷ xs) end = DependsOn deps x (first_or xs end) × Leads deps xs end

abbrev pub IsCycle : List (Vec ℕ Global) → List ℕ → Type 0
IsCycle deps [] = ⊥
IsCycle deps (x ∷ xs) = IsDistinct (x ∷ xs) × Leads deps (x ∷ xs) x
