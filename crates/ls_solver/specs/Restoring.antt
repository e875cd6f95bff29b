-- A solution keeps the values of the free variables of a closed solver, in order of declaration. It is restored by one
-- commit of all of them: refused before the solver is closed, and then where it is another solver's or has another
-- number of values; and then all is as in a commit of the moves that give the free variables these values. A rule of
-- this project.
use Rattle.std.specs.Prelude.{◌≡◌, Bool, ◌&&◌, not, Option, Some, None, Result, Err, Vec, length, nat_eq, if◌then◌else◌}
use Rattle.std.specs.declared.alloc.Global.{Global}
use Rattle.cbl_base.specs.declared.faults.RunFault.{RunFault}
use Rattle.cbl_base.specs.declared.faults.RunFault.TheVariants.{NotClosed, WrongSolver}
use Rattle.ls_events.specs.declared.change.VarChange.{VarChange}
use Rattle.ls_events.specs.declared.solution.Solution.{Solution}
pub use Rattle.solver_models.specs.FreeVariables.{free_places, free_values, moves_to}
use Rattle.solver_models.specs.State.{SolverState}
use Rattle.ls_solver.specs.Committing.{Commits}
use Rattle.ls_solver.specs.declared.fault.SolverFault.{SolverFault}
use Rattle.ls_solver.specs.declared.fault.SolverFault.TheVariants.{Run}

abbrev pub snapshot_refusal : SolverState → Option RunFault
snapshot_refusal s = if not s.closed then Some NotClosed else None

-- what is kept of a solver
abbrev pub solution_of : SolverState → Solution
solution_of s = record { solver = s.number; values = free_values s }

-- whether a solution is one of this solver's free variables
abbrev pub is_of : SolverState → Solution → Bool
is_of s solution =
    nat_eq solution.solver s.number && nat_eq (length solution.values) (length (free_places s.model))

abbrev pub restore_refusal : SolverState → Solution → Option RunFault
restore_refusal s solution =
    if not s.closed then Some NotClosed
    else (if not (is_of s solution) then Some WrongSolver
    else None)

abbrev pub RestoresBy : Option RunFault → SolverState → Solution → SolverState → Result (Vec VarChange Global) SolverFault → Type 0
RestoresBy (Some fault) old solution new result = (result ≡ Err (Run fault)) × (new ≡ old)
RestoresBy None old solution new result = Commits old (moves_to old solution.values) new result

abbrev pub Restores : SolverState → Solution → SolverState → Result (Vec VarChange Global) SolverFault → Type 0
Restores old solution new result = RestoresBy (restore_refusal old solution) old solution new result
