-- Whether a variable depends on itself, also through others: variables lead from it back to it, each of which
-- depends on the next. A rule of this project.
use Rattle.std.specs.Prelude.{ℕ, List, [], ◌∷◌}
use Rattle.term_model.specs.Definitions.{DependsOn}
use Rattle.term_model.specs.declared.model.Model.{Model}

-- a list's first variable, and `other` for the empty list
abbrev pub first_or : List ℕ → ℕ → ℕ
first_or [] other = other
first_or (x ∷ xs) other = x

-- each variable of the list depends on the next, and the last on `end`
abbrev pub Leads : Model → List ℕ → ℕ → Type 0
Leads M [] end = Unit {0}
Leads M (x ∷ xs) end = DependsOn M x (first_or xs end) × Leads M xs end

abbrev pub DependsOnItself : Model → ℕ → Type 0
DependsOnItself M i = (xs : List ℕ) × Leads M (i ∷ xs) i
