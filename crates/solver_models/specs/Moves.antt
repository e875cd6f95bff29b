-- Moves give variables new numbers, all at once: refused where one isn't the solver's, and then where one has a
-- definition. A rule of this project.
use Rattle.std.specs.Prelude.{◌≡◌, ℕ, ℤ, not, List, fold, Option, Some, None, slice_get, slice_set, if◌then◌else◌}
use Rattle.std.specs.List.{list_all, list_any}
use Rattle.cbl_base.specs.declared.faults.RunFault.{RunFault}
use Rattle.cbl_base.specs.declared.faults.RunFault.TheVariants.{DefinedVariable, WrongSolver}
use Rattle.cbl_base.specs.declared.ids.VarId.{VarId}
use Rattle.solver_models.specs.Ids.{has_definition, is_own}
use Rattle.solver_models.specs.State.{SolverState}

-- no two moves are of one variable
abbrev pub AreDistinct : List (VarId × ℤ) → Type 0
AreDistinct moves = (j k : ℕ) (m n : VarId × ℤ) → slice_get moves j ≡ Some m → slice_get moves k ≡ Some n → m.0 ≡ n.0 → j ≡ k

abbrev pub commit_refusal : SolverState → List (VarId × ℤ) → Option RunFault
commit_refusal s moves =
    if not (list_all (λ m. is_own s m.0) moves) then Some WrongSolver
    else (if list_any (λ m. has_definition s.model m.0.index) moves then Some DefinedVariable
    else None)

-- the assignment with each of the moves
abbrev pub moved : List ℤ → VarId × ℤ → List ℤ
moved a m = slice_set a m.0.index m.1

abbrev pub after_moves : List ℤ → List (VarId × ℤ) → List ℤ
after_moves a moves = fold moved a moves

abbrev pub committed : SolverState → List (VarId × ℤ) → SolverState
committed s moves = record s { assignment = after_moves s.assignment moves }
