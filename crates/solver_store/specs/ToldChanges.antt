-- The changes of a store's values as changes of variables: of the ids that are variables' those between two numbers. A
-- rule of this project.
use Rattle.std.specs.Prelude.{ℕ, nat_lt, Option, Some, None, List, filter_map, if◌then◌else◌}
use Rattle.inc_store.specs.declared.changed.NodeChange.{NodeChange}
use Rattle.ls_events.specs.declared.change.VarChange.{VarChange}
use Rattle.solver_models.specs.Changes.{change_between}

abbrev pub variable_change : ℕ → ℕ → NodeChange → Option VarChange
variable_change solver count c = if nat_lt c.node.0 count then change_between (record { solver = solver; index = c.node.0 }) (Some c.old) (Some c.new) else None

abbrev pub variable_changes : ℕ → ℕ → List NodeChange → List VarChange
variable_changes solver count cs = filter_map (variable_change solver count) cs
