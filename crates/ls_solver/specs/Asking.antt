-- The kind of a variable of the solver. A rule of this project.
use Rattle.std.specs.Prelude.{Option, None, if◌then◌else◌}
use Rattle.cbl_base.specs.Inputs.{InputKind}
use Rattle.cbl_base.specs.declared.ids.VarId.{VarId}
use Rattle.solver_models.specs.Ids.{is_own}
use Rattle.solver_models.specs.State.{SolverState}
use Rattle.term_model.specs.Kinds.{kinds_in}

abbrev pub own_kind : SolverState → VarId → Option InputKind
own_kind s x = if is_own s x then kinds_in s.model.vars.items x.index else None
