use Rattle.std.proofs.Common.{◌≡◌, ◌+◌, ◌*◌, ◌≤◌, false, Err, subst}
use Rattle.model_store.specs.Settings.{after, fresh_in}
use Rattle.model_values.specs.Fresh.{IsFresh}
use Rattle.ls_solver.proofs.CommitLaws.{closed_commits, fails, held_failed, held_next, seen, touched_by}
use Rattle.ls_solver.specs.Solvers.{rules_seen}
use Rattle.std.specs.Prelude.{is_some}
use Rattle.ls_solver.proofs.solver.Solver.commit_closed.Goals as goal

pub invariant_of-self : goal.invariant_of-self
invariant_of-self g c =
    let s = c.self.inside in
    held_next g.N.NodeRule.rule g.N.NodeRule.held g.N.NodeRule.ready s.number s.model s.assignment.items c.write_moves.new.assignment.items s.marks.items s.waiting.items s.terms s.usable s.closed c.self.invariant
    c.args.moves.now c.write_moves.ensures c.args.self.now c.self.view_is c.requires.1.1.1.1.1.1 c.commit_in.new.closed c.commit_in.ensures.there c.requires.1.1.1.1.1.0 c.in-Ok.ensures.rules g.setting c.requires.1.1.0 c.in-Ok.ensures.closed

pub invariant_of-self-in-Err-Fault : goal.invariant_of-self-in-Err-Fault
invariant_of-self-in-Err-Fault g c =
    let s = c.self.inside in
    held_failed g.N.NodeRule.rule g.N.NodeRule.held g.N.NodeRule.ready s.number s.model s.assignment.items c.write_moves.new.assignment.items s.marks.items s.waiting.items s.terms s.usable s.closed c.self.invariant
    c.args.moves.now c.write_moves.ensures c.args.self.now c.self.view_is c.requires.1.1.1.1.1.1 c.commit_in.new.closed c.commit_in.ensures.there

pub invariant_of-self-in-Err-NoMemory : goal.invariant_of-self-in-Err-NoMemory
invariant_of-self-in-Err-NoMemory g c =
    let s = c.self.inside in
    held_failed g.N.NodeRule.rule g.N.NodeRule.held g.N.NodeRule.ready s.number s.model s.assignment.items c.write_moves.new.assignment.items s.marks.items s.waiting.items s.terms s.usable s.closed c.self.invariant
    c.args.moves.now c.write_moves.ensures c.args.self.now c.self.view_is c.requires.1.1.1.1.1.1 c.commit_in.new.closed c.commit_in.ensures.there

pub returns-in-Ok-clause-commits : goal.returns-in-Ok-clause-commits
returns-in-Ok-clause-commits g c =
    let s = c.self.inside in
    closed_commits g.N.NodeRule.rule g.N.NodeRule.held g.N.NodeRule.ready s.number s.model s.assignment.items c.write_moves.new.assignment.items s.marks.items s.waiting.items s.terms s.usable s.closed c.self.invariant
    c.args.moves.now c.write_moves.ensures c.args.self.now c.self.view_is c.requires.1.1.1.1.1.1 c.commit_in.new.closed c.commit_in.ensures.there c.requires.1.1.1.1.1.0 c.in-Ok.ensures.rules g.setting c.requires.1.1.0 c.in-Ok.ensures.closed
    c.requires.1.1.1.1.0 c.requires.1.1.1.0 c.in-Ok.changes c.in-Ok.ensures.changes

pub returns-in-Ok-clause-steps : goal.returns-in-Ok-clause-steps
returns-in-Ok-clause-steps g c =
    subst (λ n. c.commit_in.new.steps ≤ c.args.steps.now + 4 * n) (touched_by c.args.self.now c.args.moves.now c.requires.1.1.1.1.1.0 g.setting c.requires.1.1.0) c.commit_in.ensures.steps

pub returns-in-Err-Fault-clause-commits : goal.returns-in-Err-Fault-clause-commits
returns-in-Err-Fault-clause-commits g c =
    let s = c.self.inside in
    fails c.args.self.now c.args.moves.now c.requires.1.1.1.1.1.0 g.setting c.requires.1.1.0 c.requires.1.1.1.1.0 c.requires.1.1.1.1.1.1
    (seen s.number s.model c.write_moves.new.assignment.items (rules_seen g.N.NodeRule.rule s.model s.waiting.items c.commit_in.new.closed) (is_some c.commit_in.new.closed) false) (λ i. false) c.in-Err-Fault.place c.in-Err-Fault.fault
    (subst (λ stop. IsFresh (fresh_in (after c.args.moves.now g.setting)) (Err stop)) c.in-Err-Fault.field-0-is c.in-Err-Fault.ensures.fault)

pub returns-in-Err-Fault-clause-steps : goal.returns-in-Err-Fault-clause-steps
returns-in-Err-Fault-clause-steps g c =
    subst (λ n. c.commit_in.new.steps ≤ c.args.steps.now + 4 * n) (touched_by c.args.self.now c.args.moves.now c.requires.1.1.1.1.1.0 g.setting c.requires.1.1.0) c.commit_in.ensures.steps

pub returns-in-Err-NoMemory-clause-steps : goal.returns-in-Err-NoMemory-clause-steps
returns-in-Err-NoMemory-clause-steps g c =
    subst (λ n. c.commit_in.new.steps ≤ c.args.steps.now + 4 * n) (touched_by c.args.self.now c.args.moves.now c.requires.1.1.1.1.1.0 g.setting c.requires.1.1.0) c.commit_in.ensures.steps
