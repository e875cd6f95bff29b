-- Solutions: what is kept of a solver, and what restoring them leaves.
use Rattle.std.proofs.Common.{◌≡◌, ℤ, Bool, List, Result, Ok, Err, OnOk, Vec, Global, length, map, zip, ap, ◌∙◌}
use Rattle.cbl_base.specs.declared.ids.VarId.{VarId}
use Rattle.ls_events.specs.declared.change.VarChange.{VarChange}
use Rattle.solver_models.specs.FreeVariables.{free_places, free_values, moves_to}
use Rattle.solver_models.specs.Kept.{AreMarks}
use Rattle.solver_models.specs.State.{SolverState}
use Rattle.solver_models.specs.Unmarked.{id_in, unmarked}
use Rattle.solver_models.proofs.FreeLaws.{free_after, free_unmarked}
use Rattle.ls_solver.specs.Committing.{Commits}
use Rattle.ls_solver.specs.declared.fault.SolverFault.{SolverFault}

-- the moves that were made of the marks are those of the solver's free variables
pub moves_are : (kept s : SolverState) → kept ≡ s → (marks seen : List Bool) → seen ≡ marks → AreMarks kept.model marks → (values : List ℤ) (moves : List (VarId × ℤ)) →
    moves ≡ zip (map (id_in kept.number) (unmarked seen)) values → moves ≡ moves_to s values
moves_are kept s view marks seen same are values moves made =
    made ∙ ap (λ ms. zip (map (id_in kept.number) (unmarked ms)) values) same
    ∙ ap (λ ps. zip (map (id_in kept.number) ps) values) (free_unmarked kept.model marks are)
    ∙ ap (λ (t : SolverState). moves_to t values) view

-- after a restore the free variables have the values
pub values_restored : (old new : SolverState) (values : List ℤ) (result : Result (Vec VarChange Global) SolverFault) → length old.assignment ≡ length old.model.vars.items → Commits old (moves_to old values) new result →
    OnOk result (length values ≡ length (free_places old.model) → free_values new ≡ values)
values_restored old new values (Ok changes) assigned e = λ long. ap (λ (t : SolverState). free_values t) e.1 ∙ free_after old values assigned long
values_restored old new values (Err fault) assigned e = tt
