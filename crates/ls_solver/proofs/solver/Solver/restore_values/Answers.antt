use Rattle.std.proofs.Common.{◌≡◌, ◌+◌, ◌*◌, ◌≤◌, ap, length, refl, subst, sym, ◌∙◌}
use Rattle.std.specs.Prelude.{is_some}
use Rattle.ls_solver.specs.Committing.{Commits, commit_refusal}
use Rattle.ls_solver.specs.Solvers.{rules_seen}
use Rattle.ls_solver.specs.Touching.{touch_of}
use Rattle.solver_models.specs.State.{SolverState}
use Rattle.solver_models.proofs.FreeLaws.{never_refused}
use Rattle.solver_store.specs.FreeMoves.{AreFree}
use Rattle.solver_store.proofs.OwnMoves.{free_restored}
use Rattle.ls_solver.proofs.CommitLaws.{seen}
use Rattle.ls_solver.proofs.RestoreLaws.{moves_are, values_restored}
use Rattle.ls_solver.proofs.solver.Solver.restore_values.Goals as goal

pub commit_own-requires-clause-refusal : goal.commit_own-requires-clause-refusal
commit_own-requires-clause-refusal g c =
    let s = c.self.inside in
    let moves = moves_are (seen s.number s.model s.assignment.items (rules_seen g.N.NodeRule.rule s.model s.waiting.items s.closed) (is_some s.closed) s.usable) c.args.self.now c.self.view_is s.marks.items c.deref.result.now c.deref.ensures.value c.self.invariant.kept.marked c.args.values.now c.in-Ok.moves.items c.in-Ok.ensures in
    ap (commit_refusal c.args.self.now) (c.deref-in-Ok.ensures.value ∙ moves) ∙ never_refused c.args.self.now c.args.values.now

pub commit_own-requires-clause-free : goal.commit_own-requires-clause-free
commit_own-requires-clause-free g c =
    let s = c.self.inside in
    let moves = moves_are (seen s.number s.model s.assignment.items (rules_seen g.N.NodeRule.rule s.model s.waiting.items s.closed) (is_some s.closed) s.usable) c.args.self.now c.self.view_is s.marks.items c.deref.result.now c.deref.ensures.value c.self.invariant.kept.marked c.args.values.now c.in-Ok.moves.items c.in-Ok.ensures in
    subst (AreFree c.args.self.now.model) (sym (c.deref-in-Ok.ensures.value ∙ moves)) (free_restored c.args.self.now c.args.values.now)

pub returns-in-Ok-clause-commits : goal.returns-in-Ok-clause-commits
returns-in-Ok-clause-commits g c =
    let s = c.self.inside in
    let moves = moves_are (seen s.number s.model s.assignment.items (rules_seen g.N.NodeRule.rule s.model s.waiting.items s.closed) (is_some s.closed) s.usable) c.args.self.now c.self.view_is s.marks.items c.deref.result.now c.deref.ensures.value c.self.invariant.kept.marked c.args.values.now c.in-Ok.moves.items c.in-Ok.ensures in
    subst (λ ms. Commits c.args.self.now ms c.commit_own.new.self c.commit_own.result) (c.deref-in-Ok.ensures.value ∙ moves) c.commit_own.ensures.commits

pub returns-in-Ok-clause-values : goal.returns-in-Ok-clause-values
returns-in-Ok-clause-values g c =
    let s = c.self.inside in
    let moves = moves_are (seen s.number s.model s.assignment.items (rules_seen g.N.NodeRule.rule s.model s.waiting.items s.closed) (is_some s.closed) s.usable) c.args.self.now c.self.view_is s.marks.items c.deref.result.now c.deref.ensures.value c.self.invariant.kept.marked c.args.values.now c.in-Ok.moves.items c.in-Ok.ensures in
    values_restored c.args.self.now c.commit_own.new.self c.args.values.now c.commit_own.result
    (subst (λ (t : SolverState). length t.assignment ≡ length t.model.vars.items) c.self.view_is c.self.invariant.kept.assigned)
    (subst (λ ms. Commits c.args.self.now ms c.commit_own.new.self c.commit_own.result) (c.deref-in-Ok.ensures.value ∙ moves) c.commit_own.ensures.commits)

pub returns-in-Ok-clause-steps : goal.returns-in-Ok-clause-steps
returns-in-Ok-clause-steps g c =
    let s = c.self.inside in
    let moves = moves_are (seen s.number s.model s.assignment.items (rules_seen g.N.NodeRule.rule s.model s.waiting.items s.closed) (is_some s.closed) s.usable) c.args.self.now c.self.view_is s.marks.items c.deref.result.now c.deref.ensures.value c.self.invariant.kept.marked c.args.values.now c.in-Ok.moves.items c.in-Ok.ensures in
    subst (λ ms. c.commit_own.new.steps ≤ c.args.steps.now + 4 * touch_of c.args.self.now ms) (c.deref-in-Ok.ensures.value ∙ moves) c.commit_own.ensures.steps

pub returns-in-Err-clause-commits : goal.returns-in-Err-clause-commits
returns-in-Err-clause-commits g c = (never_refused c.args.self.now c.args.values.now, c.requires.closed, refl)
