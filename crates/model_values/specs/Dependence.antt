-- Whether a variable depends on another: it is that one, or its definition names one that depends on it. A
-- term depends on a variable where a variable in it does. A rule of this project.
use Rattle.std.specs.Prelude.{◌≡◌, ◌<◌, ℕ, zero, suc, Bool, false, ◌||◌, List, length, nat_eq, Some, slice_get, unwrap_or}
use Rattle.std.specs.List.{list_any}
use Rattle.term_model.specs.Definitions.{definition_of, named_by, vars_of}
use Rattle.term_model.specs.declared.model.Model.{Model}
use Rattle.term_model.specs.declared.term.Term.{Term}

-- whether it depends on `x` through at most so many definitions
unfoldable pub depends_through : Model → ℕ → ℕ → ℕ → Bool
depends_through M x zero i = nat_eq i x
depends_through M x (suc n) i = nat_eq i x || list_any (depends_through M x n) (named_by M.defs.items (definition_of M i))

-- whether it depends on `x`: no definition goes through more variables than there are
abbrev pub var_depends : Model → ℕ → ℕ → Bool
var_depends M x = depends_through M x (length M.vars.items)

-- whether a term does, where these variables do
abbrev pub term_depends : (ℕ → Bool) → Term → Bool
term_depends depends t = list_any depends (vars_of t)

-- whether a variable has a mark
abbrev pub marked : List Bool → ℕ → Bool
marked marks i = unwrap_or (slice_get marks i) false

-- whether it is `x`, or its definition names one that has a mark
abbrev pub mark_step : Model → List Bool → ℕ → ℕ → Bool
mark_step M marks x i = nat_eq i x || list_any (marked marks) (named_by M.defs.items (definition_of M i))

-- the variables that rank below a number have marks exactly where they depend on `x`
abbrev pub IsMarkedBelow : Model → (ℕ → ℕ) → ℕ → ℕ → List Bool → Type 0
IsMarkedBelow M rank x k marks = (i : ℕ) → i < length M.vars.items → rank i < k → slice_get marks i ≡ Some (var_depends M x i)

-- all do
abbrev pub AreMarks : Model → ℕ → List Bool → Type 0
AreMarks M x marks = (i : ℕ) → i < length M.vars.items → slice_get marks i ≡ Some (var_depends M x i)
