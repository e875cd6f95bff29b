-- What a closed solver replies about a system or an objective: its fresh value, how a move would change it, and how much
-- of a system's violations is a variable's, each under the solver's model and assignment. Before the solver is closed
-- nothing is told; then the system or objective, and the variables that are asked about, must be the solver's. A rule of
-- this project.
use Rattle.std.specs.Prelude.{ℤ, ◌&&◌, not, List, [], ◌∷◌, Option, Some, None, Result, Err, if◌then◌else◌}
use Rattle.std.specs.List.{list_all}
use Rattle.cbl_base.specs.declared.faults.RunFault.{RunFault}
use Rattle.cbl_base.specs.declared.faults.RunFault.TheVariants.{NotClosed, WrongSolver}
use Rattle.cbl_base.specs.declared.ids.VarId.{VarId}
use Rattle.model_values.specs.Delta.{delta_of, value_of}
use Rattle.violation_shares.specs.VariableViolations.{variable_violations_of}
use Rattle.model_values.specs.declared.asked.AskStop.{AskStop}
use Rattle.model_values.specs.declared.asked.AskStop.TheVariants.{Run}
use Rattle.model_values.specs.declared.deltas.Move.{Move}
use Rattle.model_values.specs.declared.deltas.Move.TheVariants.{Assign, Swap}
use Rattle.model_values.specs.declared.failure.Failure.{Failure}
use Rattle.solver_models.specs.Ids.{is_own}
use Rattle.solver_models.specs.State.{SolverState}
use Rattle.solver_models.specs.Totals.{is_own_total, of_system, whole_of}
use Rattle.solver_models.specs.declared.totals.SystemId.{SystemId}
use Rattle.solver_models.specs.declared.totals.TotalId.{TotalId}
use Rattle.posted_users.specs.KeptRule.{users_of}

-- what a system or an objective comes to
abbrev pub fresh_total : SolverState → TotalId → Result ℤ Failure
fresh_total s k = value_of (users_of s.rules) s.model s.assignment (whole_of k)

-- why it can't be asked about these variables
abbrev pub reply_refusal : SolverState → TotalId → List VarId → Option RunFault
reply_refusal s k xs =
    if not s.closed then Some NotClosed
    else (if not (is_own_total s k && list_all (is_own s) xs) then Some WrongSolver
    else None)

-- why it can't be read
abbrev pub read_refusal : SolverState → TotalId → Option RunFault
read_refusal s k = reply_refusal s k []

-- the refusal, where there is one, or else the reply
abbrev pub replied : Option RunFault → Result ℤ AskStop → Result ℤ AskStop
replied (Some fault) reply = Err (Run fault)
replied None reply = reply

-- how its value changes where these variables are moved so
abbrev pub delta_reply : SolverState → TotalId → List VarId → Move → Result ℤ AskStop
delta_reply s k xs move = replied (reply_refusal s k xs) (delta_of (users_of s.rules) s.model s.assignment (whole_of k) move)

abbrev pub assign_reply : SolverState → TotalId → VarId → ℤ → Result ℤ AskStop
assign_reply s k x v = delta_reply s k (x ∷ []) (Assign x.index v)

abbrev pub swap_reply : SolverState → TotalId → VarId → VarId → Result ℤ AskStop
swap_reply s k x y = delta_reply s k (x ∷ y ∷ []) (Swap x.index y.index)

-- the violations of a variable in a system
abbrev pub variable_reply : SolverState → SystemId → VarId → Result ℤ AskStop
variable_reply s k x = replied (reply_refusal s (of_system k) (x ∷ [])) (variable_violations_of (users_of s.rules) s.model s.assignment k.index x.index)
