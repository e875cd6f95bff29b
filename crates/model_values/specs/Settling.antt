-- What the search for the variables' outcomes keeps: which are known so far, and that these are right.
use Rattle.std.specs.Prelude.{◌≡◌, ℕ, ◌<◌, ℤ, Bool, true, false, List, length, Option, Some, None, slice_get, map}
use Rattle.cbl_base.specs.NumberRule.{NumberRule}
use Rattle.term_model.specs.Definitions.{definition_of, named_by}
use Rattle.term_model.specs.Kinds.{kinds_in}
use Rattle.model_values.specs.Outcomes.{Outcome, HasKinds, env_of}
use Rattle.model_values.specs.VarOutcomes.{outcome_of_var}
use Rattle.term_model.specs.declared.model.Model.{Model}

abbrev pub is_there : Option (Option Outcome) → Bool
is_there (Some (Some outcome)) = true
is_there (Some None) = false
is_there None = false

-- whether the outcome of a variable is known
abbrev pub is_known : List (Option Outcome) → ℕ → Bool
is_known cells i = is_there (slice_get cells i)

pub record IsRight (users : ℕ → NumberRule) (M : Model) (a : List ℤ) (cells : List (Option Outcome)) : Type 0 where
  pub count : length cells ≡ length M.vars.items
  pub right : (i : ℕ) (o : Outcome) → slice_get cells i ≡ Some (Some o) → o ≡ outcome_of_var users M a i
  pub kinds : HasKinds (kinds_in M.vars.items) (env_of cells)

-- what is known stays known
abbrev pub KeepsKnown : List (Option Outcome) → List (Option Outcome) → Type 0
KeepsKnown old new = (i : ℕ) → is_known old i ≡ true → is_known new i ≡ true

-- the tables say of each variable its definition, and which variables that names
pub record AreTables (M : Model) (definitions : List (Option ℕ)) (named : List (List ℕ)) : Type 0 where
  pub count : length definitions ≡ length M.vars.items
  pub each : (i : ℕ) → i < length M.vars.items → slice_get definitions i ≡ Some (definition_of M i)
  pub names : named ≡ map (named_by M.defs.items) definitions

-- the variables that rank below a number are known
abbrev pub IsKnownBelow : Model → (ℕ → ℕ) → ℕ → List (Option Outcome) → Type 0
IsKnownBelow M rank k cells = (i : ℕ) → i < length M.vars.items → rank i < k → is_known cells i ≡ true
