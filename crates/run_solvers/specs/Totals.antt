-- The system or the objective that a value is. A rule of this project.
use Rattle.std.specs.Prelude.{Option, Some, None}
use Rattle.ls_solver.specs.OfSolverModels.declared.totals.TotalId.{TotalId}
use Rattle.term_model.specs.declared.posting.Side.TheVariants.{Systems, Objectives}
use Rattle.comet_meaning.specs.Values.{Value, System, Objective}

abbrev pub total_in : Value → Option TotalId
total_in (System k i) = Some (record { side = Systems; solver = k; index = i })
total_in (Objective k i) = Some (record { side = Objectives; solver = k; index = i })
total_in v = None
