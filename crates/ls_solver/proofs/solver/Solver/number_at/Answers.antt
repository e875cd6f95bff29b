use Rattle.std.proofs.Common.{◌≡◌, Some, ap, ◌∙◌, slice_get, sym, rules, w64, FitsSigned}
use Rattle.std.proofs.lemmas.Int.{to_z-of_z}
use Rattle.std.specs.Prelude.{is_some}
use Rattle.cbl_base.specs.Inputs.{number_kind}
use Rattle.cbl_base.specs.declared.input.Input.TheVariants.{Int}
use Rattle.solver_models.specs.State.{SolverState}
use Rattle.solver_models.proofs.ReadLaws.{readable}
use Rattle.ls_solver.specs.Solvers.{rules_seen}
use Rattle.ls_solver.proofs.ClosedLaws.{free_read, read_kind, read_value}
use Rattle.ls_solver.proofs.solver.Solver.number_at.Goals as goal

pub number-requires-clause-kind : goal.number-requires-clause-kind
number-requires-clause-kind g c =
    let own = (readable c.args.self.now c.args.x c.requires.readable).0 in
    read_kind g.N.NodeRule.rule g.N.NodeRule.held g.N.NodeRule.ready c.args.self.now c.kept.result.now c.kept.ensures c.args.x own number_kind (c.requires.kind own)

pub returns-then-is_closed : goal.returns-then-is_closed
returns-then-is_closed g c =
    let own = (readable c.args.self.now c.args.x c.requires.readable).0 in
    let fits : FitsSigned w64 c.number.result = search rules in
    rw (to_z-of_z w64 c.number.result fits)
    (read_value g.N.NodeRule.rule g.N.NodeRule.held g.N.NodeRule.ready c.args.self.now c.kept.result.now c.kept.ensures c.args.x own (Int c.number.result) c.number.ensures)

pub returns-else-is_closed : goal.returns-else-is_closed
returns-else-is_closed g c =
    let s = c.self.inside in
    let fits : FitsSigned w64 c.number_at.result = search rules in
    rw (to_z-of_z w64 c.number_at.result fits)
    (free_read s.number s.model s.assignment.items (rules_seen g.N.NodeRule.rule s.model s.waiting.items s.closed) (is_some s.closed) s.usable c.args.x c.args.self.now c.self.view_is c.requires.readable
    (ap (λ (t : SolverState). t.closed) c.self.view_is ∙ sym c.is_closed.ensures ∙ c.if-is_closed.false) c.number_at.result (ap (λ zs. slice_get zs c.args.x.index) (sym c.deref.ensures.value) ∙ c.number_at.ensures))
