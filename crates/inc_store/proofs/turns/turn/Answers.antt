use Rattle.std.proofs.Common.{◌+◌, map, sym, ◌∙◌, refl, arith}
use Rattle.store_turns.specs.Waits.{waits, taken_of}
use Rattle.inc_store.specs.Course.{with_outcome}
use Rattle.inc_store.proofs.CourseTurn.{keyed, changes_here, kind, turn_step, limit_before, limit_after, limit_course}
use Rattle.inc_store.proofs.turns.turn.Goals as goal

pub outcome_of-requires-clause-changes : goal.outcome_of-requires-clause-changes
outcome_of-requires-clause-changes g c =
    changes_here (map g.N.NodeRule.rule c.args.nodes.now.items) c.args.frame.now g.trace c.requires.1.1.1.0 (map g.N.NodeRule.held c.args.nodes.now.items) c.args.cells.now c.args.course.now c.args.front (c.args.steps.now + 1) c.requires.1.1.1.1.0 c.requires.1.1.1.1.1
    c.in-Some.turn.layer c.in-Some.turn.id (taken_of c.pop.new.self) (waits c.pop.new.self) c.in-Some.ensures.taken.taken c.in-Some.ensures.taken.least c.in-Some.ensures.taken.here c.in-Some.ensures.taken.elsewhere

pub settle-requires-clause-kinds : goal.settle-requires-clause-kinds
settle-requires-clause-kinds g c = λ x is.
    let here = keyed (map g.N.NodeRule.rule c.args.nodes.now.items) c.args.frame.now g.trace c.requires.1.1.1.0 (map g.N.NodeRule.held c.args.nodes.now.items) c.args.cells.now c.args.course.now c.args.front (c.args.steps.now + 1) c.requires.1.1.1.1.0 c.requires.1.1.1.1.1
    c.in-Some.turn.layer c.in-Some.turn.id (taken_of c.pop.new.self) (waits c.pop.new.self) c.in-Some.ensures.taken.taken c.in-Some.ensures.taken.least c.in-Some.ensures.taken.here c.in-Some.ensures.taken.elsewhere in
    kind (map g.N.NodeRule.rule c.args.nodes.now.items) c.args.frame.now g.trace c.requires.1.1.1.0 (map g.N.NodeRule.held c.args.nodes.now.items) c.args.cells.now c.args.course.now c.args.front (c.args.steps.now + 1) c.requires.1.1.1.1.0 c.requires.1.1.1.1.1
    c.in-Some.turn.layer c.in-Some.turn.id (taken_of c.pop.new.self) (waits c.pop.new.self) c.in-Some.ensures.taken.taken c.in-Some.ensures.taken.least c.in-Some.ensures.taken.here c.in-Some.ensures.taken.elsewhere
    c.in_ok-outcome.outcome (map g.N.NodeRule.held c.outcome_of.new.nodes.items) (with_outcome c.args.cells.now c.in-Some.turn.id c.in_ok-outcome.outcome) c.args.course.now c.args.steps.now
    c.in_ok-outcome.ensures.outcome c.in_ok-outcome.ensures.held refl x is
    ∙ sym (c.requires.1.1.1.1.0.kinded c.in-Some.turn.id here.1)

pub returns-clause-course : goal.returns-clause-course
returns-clause-course g c =
    turn_step (map g.N.NodeRule.rule c.args.nodes.now.items) c.args.frame.now g.trace c.requires.1.1.1.0 (map g.N.NodeRule.held c.args.nodes.now.items) c.args.cells.now c.args.course.now c.args.front (c.args.steps.now + 1) c.requires.1.1.1.1.0 c.requires.1.1.1.1.1
    c.in-Some.turn.layer c.in-Some.turn.id (taken_of c.pop.new.self) (waits c.pop.new.self) c.in-Some.ensures.taken.taken c.in-Some.ensures.taken.least c.in-Some.ensures.taken.here c.in-Some.ensures.taken.elsewhere
    c.in_ok-outcome.outcome (map g.N.NodeRule.held c.outcome_of.new.nodes.items) c.settle.new.cells c.settle.new.course (c.settle.new.steps + 1)
    c.in_ok-outcome.ensures.outcome c.in_ok-outcome.ensures.held c.in_ok-settle.ensures.cells
    c.in_ok-settle.ensures.told c.in_ok-settle.ensures.lost.here c.in_ok-settle.ensures.lost.elsewhere c.in_ok-settle.ensures.change.here c.in_ok-settle.ensures.change.elsewhere
    (omega (arith, c.pop.ensures.steps, c.outcome_of.ensures.steps, c.settle.ensures.steps))

pub returns-in_default-clause-limit : goal.returns-in_default-clause-limit
returns-in_default-clause-limit g c = λ o m.
    let a = limit_course (map g.N.NodeRule.rule c.args.nodes.now.items) c.args.frame.now g.trace c.requires.1.1.1.0 (map g.N.NodeRule.held c.args.nodes.now.items) c.args.cells.now c.args.course.now c.args.front (c.args.steps.now + 1) c.requires.1.1.1.1.0 c.requires.1.1.1.1.1 o m in
    omega (arith, a, c.pop.ensures.steps)

pub returns-in_err-outcome-clause-limit : goal.returns-in_err-outcome-clause-limit
returns-in_err-outcome-clause-limit g c = λ o m.
    let a = limit_before (map g.N.NodeRule.rule c.args.nodes.now.items) c.args.frame.now g.trace c.requires.1.1.1.0 (map g.N.NodeRule.held c.args.nodes.now.items) c.args.cells.now c.args.course.now c.args.front (c.args.steps.now + 1) c.requires.1.1.1.1.0 c.requires.1.1.1.1.1
    c.in-Some.turn.layer c.in-Some.turn.id (taken_of c.pop.new.self) (waits c.pop.new.self) c.in-Some.ensures.taken.taken c.in-Some.ensures.taken.least c.in-Some.ensures.taken.here c.in-Some.ensures.taken.elsewhere o m in
    omega (arith, a, c.pop.ensures.steps, c.outcome_of.ensures.steps)

pub returns-in_err-settle-clause-limit : goal.returns-in_err-settle-clause-limit
returns-in_err-settle-clause-limit g c = λ o m.
    limit_after (map g.N.NodeRule.rule c.args.nodes.now.items) c.args.frame.now g.trace c.requires.1.1.1.0 (map g.N.NodeRule.held c.args.nodes.now.items) c.args.cells.now c.args.course.now c.args.front (c.args.steps.now + 1) c.requires.1.1.1.1.0 c.requires.1.1.1.1.1
    c.in-Some.turn.layer c.in-Some.turn.id (taken_of c.pop.new.self) (waits c.pop.new.self) c.in-Some.ensures.taken.taken c.in-Some.ensures.taken.least c.in-Some.ensures.taken.here c.in-Some.ensures.taken.elsewhere
    c.in_ok-outcome.outcome (map g.N.NodeRule.held c.outcome_of.new.nodes.items) (with_outcome c.args.cells.now c.in-Some.turn.id c.in_ok-outcome.outcome) c.args.course.now c.args.steps.now
    c.in_ok-outcome.ensures.outcome c.in_ok-outcome.ensures.held refl o m c.settle.new.steps (omega (arith, c.pop.ensures.steps, c.outcome_of.ensures.steps, c.settle.ensures.steps))

pub returns-clause-limit : goal.returns-clause-limit
returns-clause-limit g c = λ o m.
    limit_after (map g.N.NodeRule.rule c.args.nodes.now.items) c.args.frame.now g.trace c.requires.1.1.1.0 (map g.N.NodeRule.held c.args.nodes.now.items) c.args.cells.now c.args.course.now c.args.front (c.args.steps.now + 1) c.requires.1.1.1.1.0 c.requires.1.1.1.1.1
    c.in-Some.turn.layer c.in-Some.turn.id (taken_of c.pop.new.self) (waits c.pop.new.self) c.in-Some.ensures.taken.taken c.in-Some.ensures.taken.least c.in-Some.ensures.taken.here c.in-Some.ensures.taken.elsewhere
    c.in_ok-outcome.outcome (map g.N.NodeRule.held c.outcome_of.new.nodes.items) (with_outcome c.args.cells.now c.in-Some.turn.id c.in_ok-outcome.outcome) c.args.course.now c.args.steps.now
    c.in_ok-outcome.ensures.outcome c.in_ok-outcome.ensures.held refl o m c.settle.new.steps (omega (arith, c.pop.ensures.steps, c.outcome_of.ensures.steps, c.settle.ensures.steps))
