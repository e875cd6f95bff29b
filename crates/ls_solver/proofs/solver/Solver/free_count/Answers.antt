use Rattle.std.proofs.Common.{ap, count_by, length, not, ◌∙◌}
use Rattle.solver_models.specs.FreeVariables.{free_places}
use Rattle.solver_models.specs.State.{SolverState}
use Rattle.solver_models.proofs.FreeLaws.{free_counted}
use Rattle.ls_solver.proofs.solver.Solver.free_count.Goals as goal

pub returns : goal.returns
returns g c =
    let s = c.self.inside in
    c.free_count.ensures ∙ ap (count_by not) c.deref.ensures.value ∙ free_counted s.model s.marks.items c.self.invariant.kept.marked
    ∙ ap (λ (t : SolverState). length (free_places t.model)) c.self.view_is
