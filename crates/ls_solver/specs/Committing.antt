-- A commit gives variables new numbers: refused where one isn't the solver's, and then where one has a definition.
-- Before the solver is closed it sets the numbers and tells nothing. Of a closed solver all is evaluated: a fault is
-- that of the whole model, and the solver is of no use any more; and without one the changes are told. A rule of this
-- project.
use Rattle.std.specs.Prelude.{◌≡◌, ℤ, true, false, List, [], None, Some, Result, Ok, Err, Vec, is_ok}
use Rattle.std.specs.declared.alloc.Global.{Global}
use Rattle.cbl_base.specs.declared.ids.VarId.{VarId}
use Rattle.ls_events.specs.declared.change.VarChange.{VarChange}
use Rattle.solver_models.specs.Changes.{changes_of}
pub use Rattle.solver_models.specs.Moves.{AreDistinct, after_moves, commit_refusal, committed, moved}
use Rattle.solver_models.specs.State.{SolverState}
use Rattle.ls_solver.specs.declared.fault.SolverFault.{SolverFault}
use Rattle.ls_solver.specs.declared.fault.SolverFault.TheVariants.{Run, At, Cyclic, NoMemory}
use Rattle.model_values.specs.Fresh.{fresh_of}
use Rattle.posted_users.specs.KeptRule.{users_of}

-- the changes are told of a closed solver that has values
pub record IsTold (old new : SolverState) (changes : List VarChange) : Type 0 where
  pub open_ : old.closed ≡ false → changes ≡ []
  pub valued : old.closed ≡ true → is_ok (fresh_of (users_of new.rules) new.model new.assignment) ≡ true
  pub changes_ : old.closed ≡ true → changes ≡ changes_of old new

abbrev pub Fails : SolverState → List (VarId × ℤ) → SolverState → SolverFault → Type 0
Fails old moves new (Run fault) = (commit_refusal old moves ≡ Some fault) × (new ≡ old)
Fails old moves new (Cyclic cycle) = ⊥
Fails old moves new (At place fault) =
    (commit_refusal old moves ≡ None) × (old.closed ≡ true) × (new.usable ≡ false)
    × (fresh_of (users_of old.rules) old.model (after_moves old.assignment moves) ≡ Err (record { place = place; fault = fault }))
Fails old moves new NoMemory = (commit_refusal old moves ≡ None) × (old.closed ≡ true) × (new.usable ≡ false)

abbrev pub Commits : SolverState → List (VarId × ℤ) → SolverState → Result (Vec VarChange Global) SolverFault → Type 0
Commits old moves new (Ok changes) = (commit_refusal old moves ≡ None) × (new ≡ committed old moves) × IsTold old new changes.items
Commits old moves new (Err fault) = Fails old moves new fault
