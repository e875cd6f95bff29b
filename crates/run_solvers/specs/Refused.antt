-- What is asked of a definition, and of a member of a system or an objective, before its size. A rule of this project.
use Rattle.std.specs.Prelude.{if◌then◌else◌, Ok}
use Rattle.cbl_base.specs.declared.faults.Limit.TheVariants.{TermNodes}
use Rattle.cbl_base.specs.declared.faults.RunFault.TheVariants.{TooMany}
use Rattle.cbl_base.specs.declared.ids.VarId.{VarId}
use Rattle.cbl_base.specs.declared.place.Place.{Place}
use Rattle.model_view.specs.Building.{with_definition}
use Rattle.term_model.specs.declared.model.Member.{Member}
use Rattle.term_model.specs.declared.term.Term.{Term}
use Rattle.model_values.specs.declared.wholes.Whole.{Whole}
use Rattle.comet_meaning.specs.Members.{with_member}
use Rattle.comet_meaning.specs.Models.{has_room}
use Rattle.comet_meaning.specs.Solvers.{SolverState}
use Rattle.run_solvers.specs.Changing.{Made, refused}

-- the definition of a variable by a term of its kind, which is refused at most for its size
abbrev pub sized_one : Place → VarId → Term → SolverState → Made
sized_one at x t m = if has_room m t then Ok (record m { model = with_definition m.model x t }) else refused at (TooMany TermNodes)

-- a member that is a number, likewise
abbrev pub sized_member : Place → Whole → Member → SolverState → Made
sized_member at w x m = if has_room m x.term then Ok (record m { model = with_member m.model w x }) else refused at (TooMany TermNodes)
