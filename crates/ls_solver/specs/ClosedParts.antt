-- What is closed, where something is. A rule of this project.
use Rattle.std.specs.Prelude.{List, [], Option, Some, None}
use Rattle.cbl_base.specs.NodeLaw.{Rule}
use Rattle.cbl_base.specs.declared.input.Input.{Input}
use Rattle.inc_store.specs.Views.{rules_in}
use Rattle.model_store.specs.Settings.{Setting}
use Rattle.store_laws.specs.Deltas.{Question}
use Rattle.term_model.specs.declared.model.Model.{Model}
use Rattle.model_values.specs.declared.deltas.Move.{Move}
use Rattle.solver_models.specs.State.{SolverState}
use Rattle.solver_models.specs.Totals.{whole_of}
use Rattle.solver_models.specs.declared.totals.TotalId.{TotalId}
use Rattle.solver_store.specs.Closed.{IsClosed, setting_of, vars_in}
use Rattle.solver_store.specs.declared.closed.Closed.{Closed}

module _ {N : Type 0} where
  abbrev pub IsClosedIn : (N → Rule) → (N → List Input) → (N → Type 0) → Setting → Option (Closed N) → Type 0
  IsClosedIn rule held ready setting (Some c) = IsClosed rule held ready setting c
  IsClosedIn rule held ready setting None = ⊥

  abbrev pub rules_in_closed : (N → Rule) → Option (Closed N) → List Rule
  rules_in_closed rule (Some c) = rules_in rule c.store
  rules_in_closed rule None = []

  abbrev pub vars_in_closed : Model → Option (Closed N) → List Input
  vars_in_closed M (Some c) = vars_in M c
  vars_in_closed M None = []

-- what is asked of it for a delta
abbrev pub question_of : SolverState → TotalId → Move → Question
question_of s k change = record { setting = setting_of s.model s.assignment s.rules; whole = whole_of k; change = change }
