-- What a commit changes: the whole-number variables, free and defined, whose fresh values differ, in order of
-- declaration, each with its old and its new value. A rule of this project.
use Rattle.std.specs.Prelude.{ℕ, List, length, Option, Some, None, if◌then◌else◌}
use Rattle.std.specs.List.{filter_map, range_with_len}
use Rattle.std.specs.Ordering.{int_eq}
use Rattle.cbl_base.specs.declared.ids.VarId.{VarId}
use Rattle.cbl_base.specs.declared.input.Input.TheVariants.{Int, Set}
use Rattle.ls_events.specs.declared.change.VarChange.{VarChange}
use Rattle.solver_models.specs.Ids.{id_at}
use Rattle.solver_models.specs.Reading.{fresh_value}
use Rattle.solver_models.specs.State.{SolverState}
use Rattle.model_values.specs.Outcomes.{Outcome}

-- how the value of a variable changed
abbrev pub change_between : VarId → Outcome → Outcome → Option VarChange
change_between x (Some (Int old)) (Some (Int new)) = if int_eq old new then None else Some (record { var = x; old = old; new = new })
change_between x (Some (Int old)) (Some (Set s)) = None
change_between x (Some (Int old)) None = None
change_between x (Some (Set s)) new = None
change_between x None new = None

abbrev pub change_at : SolverState → SolverState → ℕ → Option VarChange
change_at old new i = change_between (id_at old i) (fresh_value old i) (fresh_value new i)

abbrev pub changes_of : SolverState → SolverState → List VarChange
changes_of old new = filter_map (change_at old new) (range_with_len 0 (length old.model.vars.items))
