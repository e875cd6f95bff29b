-- A solver that was closed is refused. Where variables depend on one another in a circle, the named cycle is told and
-- nothing changes. Else all is evaluated: a fault is that of the whole model, and the solver is of no use any more; and
-- without one the solver is closed, with the same model and assignment. A rule of this project.
use Rattle.std.specs.Prelude.{◌≡◌, true, false, List, map, Result, Ok, Err, is_ok}
use Rattle.cbl_base.specs.declared.faults.RunFault.TheVariants.{AlreadyClosed}
use Rattle.cbl_base.specs.declared.ids.VarId.{VarId}
use Rattle.solver_models.specs.Ids.{id_at}
use Rattle.solver_models.specs.NamedCycle.{IsNamedCycle}
use Rattle.solver_models.specs.State.{SolverState}
use Rattle.ls_solver.specs.declared.fault.SolverFault.{SolverFault}
use Rattle.ls_solver.specs.declared.fault.SolverFault.TheVariants.{Run, At, Cyclic, NoMemory}
use Rattle.model_values.specs.Fresh.{fresh_of}
use Rattle.term_model.specs.Definitions.{IsAcyclic}
use Rattle.std.specs.Prelude.{ℕ}
use Rattle.posted_users.specs.KeptRule.{users_of}

-- these ids are the variables at these places
abbrev pub AreAt : SolverState → List VarId → List ℕ → Type 0
AreAt s ids list = ids ≡ map (id_at s) list

abbrev pub Stops : SolverState → SolverState → SolverFault → Type 0
Stops old new (Run fault) = (old.closed ≡ true) × (fault ≡ AlreadyClosed) × (new ≡ old)
Stops old new (Cyclic cycle) = (old.closed ≡ false) × (new ≡ old) × ((list : List ℕ) × AreAt old cycle.items list × IsNamedCycle old.model list)
Stops old new (At place fault) =
    (old.closed ≡ false) × IsAcyclic old.model × (new.usable ≡ false)
    × (fresh_of (users_of old.rules) old.model old.assignment ≡ Err (record { place = place; fault = fault }))
Stops old new NoMemory = (old.closed ≡ false) × (new.usable ≡ false)

abbrev pub Closes : SolverState → SolverState → Result (Unit {0}) SolverFault → Type 0
Closes old new (Ok done) =
    (old.closed ≡ false) × IsAcyclic old.model × (is_ok (fresh_of (users_of old.rules) old.model old.assignment) ≡ true)
    × (new ≡ record old { closed = true })
Closes old new (Err fault) = Stops old new fault
