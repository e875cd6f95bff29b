use Rattle.std.proofs.Common.{length, ap, ◌∙◌}
use Rattle.std.specs.Prelude.{is_some}
use Rattle.solver_models.specs.State.{SolverState}
use Rattle.solver_models.proofs.ChangeLaws.{moves_length}
use Rattle.ls_solver.proofs.CommitLaws.{open_commits}
use Rattle.solver_models.proofs.KeptLaws.{kept_open}
use Rattle.ls_solver.proofs.solver.Solver.commit_open.Goals as goal
use Rattle.ls_solver.specs.Solvers.{rules_seen}
use Rattle.ls_solver.proofs.HeldLaws.{held_from}

pub invariant_of-self : goal.invariant_of-self
invariant_of-self g c =
    let s = c.self.inside in
    let shut = ap (λ (t : SolverState). t.closed) c.self.view_is ∙ c.requires.closed in
    held_from g.N.NodeRule.rule g.N.NodeRule.held g.N.NodeRule.ready s.model s.model c.write_moves.new.assignment.items s.marks.items s.waiting.items s.terms s.closed s.usable shut
    (kept_open s.model s.assignment.items c.write_moves.new.assignment.items s.marks.items (rules_seen g.N.NodeRule.rule s.model s.waiting.items s.closed) s.terms (is_some s.closed) s.usable
    (ap length c.write_moves.ensures ∙ moves_length s.assignment.items c.args.moves.now) (ap (λ (t : SolverState). t.closed) c.self.view_is ∙ c.requires.closed) c.self.invariant.kept) c.self.invariant.waits

pub returns : goal.returns
returns g c =
    let s = c.self.inside in
    open_commits s.number s.model s.assignment.items c.write_moves.new.assignment.items (rules_seen g.N.NodeRule.rule s.model s.waiting.items s.closed) (is_some s.closed) s.usable c.args.moves.now c.write_moves.ensures c.args.self.now c.self.view_is c.requires.refusal c.requires.closed c.new.result c.new.ensures.items
