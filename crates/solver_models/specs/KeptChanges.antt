-- The changes from lists of values, one variable after another.
use Rattle.std.specs.Prelude.{ℕ, List, [], ◌∷◌, ◌++◌, Option, Some, None, slice_get}
use Rattle.cbl_base.specs.declared.input.Input.{Input}
use Rattle.ls_events.specs.declared.change.VarChange.{VarChange}
use Rattle.solver_models.specs.Changes.{change_between}

abbrev pub change_in : ℕ → List Input → List Input → ℕ → Option VarChange
change_in solver old new i = change_between (record { solver = solver; index = i }) (slice_get old i) (slice_get new i)

abbrev pub with_change : List VarChange → Option VarChange → List VarChange
with_change changes (Some change) = changes ++ change ∷ []
with_change changes None = changes
