-- What holds of each solver of a run: it may be used, its ids carry its number, each of its variables has a name, and
-- what waits are numbers of free variables of a closed solver; and each set variable has a definition. A rule of this
-- project.
use Rattle.std.specs.Prelude.{◌≡◌, ℕ, ◌<◌, ℤ, true, List, length, Option, Some, None, slice_get, ◌⊎◌}
use Rattle.cbl_base.specs.Inputs.{number_kind}
use Rattle.ls_solver.specs.State.{SolverState}
use Rattle.term_model.specs.Definitions.{definition_of}
use Rattle.term_model.specs.Kinds.{kinds_in}
use Rattle.term_model.specs.Wellformed.{HasDefinedSets}
use Rattle.term_model.specs.declared.model.Model.{Model}
use Rattle.run_solvers.specs.Views.{waits}
use Rattle.run_solvers.specs.declared.held.Held.{Held}

abbrev pub AreWaiting : SolverState → Option (List (Option ℤ)) → Type 0
AreWaiting S None = Unit {0}
AreWaiting S (Some ws) =
    (S.closed ≡ true) × (length ws ≡ length S.model.vars.items) × ((i : ℕ) (z : ℤ) → slice_get ws i ≡ Some (Some z) → definition_of S.model i ≡ None)

pub record IsWhole (number : ℕ) (S : SolverState) (names : List (List ℕ)) (waiting : Option (List (Option ℤ))) : Type 0 where
  pub number_ : S.number ≡ number
  pub usable : S.usable ≡ true
  pub named : length names ≡ length S.model.vars.items
  pub waits_ : AreWaiting S waiting

abbrev pub IsWholeHeld : {N : Type 0} → Held N → Type 0
IsWholeHeld h = IsWhole h.number h.solver h.names (waits h)

abbrev pub IsKept : {N : Type 0} → Held N → Type 0
IsKept h = IsWholeHeld h × HasDefinedSets h.solver.model

-- each set variable has a definition, but perhaps this one
abbrev pub HasDefinedOthers : Model → ℕ → Type 0
HasDefinedOthers M x = (i : ℕ) → i < length M.vars.items → definition_of M i ≡ None → (i ≡ x) ⊎ (kinds_in M.vars.items i ≡ Some number_kind)

-- the solvers of a run carry their places as numbers
pub record AreKept {N : Type 0} (held : List (Held N)) : Type 0 where
  pub numbered : (k : ℕ) (h : Held N) → slice_get held k ≡ Some h → h.number ≡ k
  pub kept : (k : ℕ) (h : Held N) → slice_get held k ≡ Some h → IsKept h
