-- The free variables of a solver are those without a definition, in order of declaration; they are whole numbers once
-- it is closed, since each set variable has a definition then. A rule of this project.
use Rattle.std.specs.Prelude.{ℕ, ℤ, not, List, filter, filter_map, length, map, slice_get, zip}
use Rattle.std.specs.List.{range_with_len}
use Rattle.cbl_base.specs.declared.ids.VarId.{VarId}
use Rattle.solver_models.specs.Ids.{has_definition, id_at}
use Rattle.solver_models.specs.State.{SolverState}
use Rattle.term_model.specs.declared.model.Model.{Model}

-- the places of the free variables
abbrev pub free_places : Model → List ℕ
free_places M = filter (λ i. not (has_definition M i)) (range_with_len 0 (length M.vars.items))

-- the numbers at these places of an assignment
abbrev pub numbers_at : List ℤ → List ℕ → List ℤ
numbers_at a places = filter_map (slice_get a) places

-- the values of the free variables
abbrev pub free_values : SolverState → List ℤ
free_values s = numbers_at s.assignment (free_places s.model)

-- the moves that give the free variables these values, one after another
abbrev pub moves_to : SolverState → List ℤ → List (VarId × ℤ)
moves_to s values = zip (map (id_at s) (free_places s.model)) values
