-- What is told of the changes of a solver by a change of it: they are those of the meaning of programs, with the solver's
-- number. A rule of this project.
use Rattle.std.specs.Prelude.{◌≡◌, ℕ, List, map, Result, Vec, IfOk, slice_index_or}
use Rattle.std.specs.declared.alloc.Global.{Global}
use Rattle.ls_events.specs.declared.change.VarChange.{VarChange}
use Rattle.comet_meaning.specs.Changes.{Change, changes_of}
use Rattle.comet_meaning.specs.Solvers.{SolverState, new_solver}
use Rattle.run_values.specs.declared.stop.Stop.{Stop}

abbrev pub told : ℕ → Change → VarChange
told k c = record { var = record { solver = k; index = c.index }; old = c.old; new = c.new }

-- all that changed in a solver
abbrev pub all_told : ℕ → SolverState → SolverState → List VarChange
all_told k m n = map (told k) (changes_of m n)

abbrev pub Tells : ℕ → SolverState → SolverState → Result (Vec VarChange Global) Stop → Type 0
Tells k m n result = IfOk result (λ changes. changes.items ≡ all_told k m n)

-- the same of the solver with a number
abbrev pub TellsIn : ℕ → List SolverState → List SolverState → Result (Vec VarChange Global) Stop → Type 0
TellsIn k old new result = Tells k (slice_index_or old k new_solver) (slice_index_or new k new_solver) result
