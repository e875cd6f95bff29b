-- What is read of a variable is its fresh value: what it comes to under the solver's model and assignment. Before the
-- solver is closed a variable with a definition, and a set, can't be read. A rule of this project.
use Rattle.std.specs.Prelude.{ℕ, Bool, ◌&&◌, not, Option, Some, None, if◌then◌else◌}
use Rattle.cbl_base.specs.declared.faults.RunFault.{RunFault}
use Rattle.cbl_base.specs.declared.faults.RunFault.TheVariants.{NotClosed, WrongSolver}
use Rattle.cbl_base.specs.declared.ids.VarId.{VarId}
use Rattle.solver_models.specs.Ids.{has_definition, is_own}
use Rattle.solver_models.specs.State.{SolverState}
use Rattle.model_values.specs.Outcomes.{Outcome}
use Rattle.model_values.specs.VarOutcomes.{outcome_of_var}
use Rattle.posted_users.specs.KeptRule.{users_of}

-- whether a variable of the solver has a definition
abbrev pub is_defined : SolverState → VarId → Bool
is_defined s x = is_own s x && has_definition s.model x.index

abbrev pub value_refusal : SolverState → VarId → Option RunFault
value_refusal s x =
    if not s.closed && is_defined s x then Some NotClosed
    else (if not (is_own s x) then Some WrongSolver
    else None)

abbrev pub set_refusal : SolverState → VarId → Option RunFault
set_refusal s x =
    if not s.closed then Some NotClosed
    else (if not (is_own s x) then Some WrongSolver
    else None)

abbrev pub domain_refusal : SolverState → VarId → Option RunFault
domain_refusal s x = if not (is_own s x) then Some WrongSolver else None

-- what a variable comes to
abbrev pub fresh_value : SolverState → ℕ → Outcome
fresh_value s i = outcome_of_var (users_of s.rules) s.model s.assignment i
