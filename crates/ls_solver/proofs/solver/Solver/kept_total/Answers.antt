use Rattle.std.proofs.Common.{rules, w64, FitsSigned, [], ap, ◌∙◌}
use Rattle.std.proofs.lemmas.Int.{to_z-of_z}
use Rattle.graph_values.specs.WholeGraphs.{total_id}
use Rattle.solver_models.specs.State.{SolverState}
use Rattle.solver_models.specs.Totals.{whole_of}
use Rattle.ls_solver.proofs.ClosedLaws.{total_kind, total_read}
use Rattle.ls_solver.proofs.solver.Solver.kept_total.Goals as goal

pub number-requires-clause-kind : goal.number-requires-clause-kind
number-requires-clause-kind g c = total_kind g.N.NodeRule.rule g.N.NodeRule.held g.N.NodeRule.ready c.args.self.now c.kept-kept.result.now c.kept-kept.ensures c.args.k [] c.requires.readable c.total_id.result (c.total_id.ensures ∙ ap (λ (t : SolverState). total_id t.model (whole_of c.args.k)) c.self.view_is)

pub returns : goal.returns
returns g c =
    let fits : FitsSigned w64 c.number.result = search rules in
    rw (to_z-of_z w64 c.number.result fits)
    (total_read g.N.NodeRule.rule g.N.NodeRule.held g.N.NodeRule.ready c.args.self.now c.kept-kept.result.now c.kept-kept.ensures c.args.k [] c.requires.readable c.total_id.result (c.total_id.ensures ∙ ap (λ (t : SolverState). total_id t.model (whole_of c.args.k)) c.self.view_is) c.number.result c.number.ensures)
