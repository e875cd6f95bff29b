use Rattle.std.proofs.Common.{rules, ◌+◌, List, map, subst}
use Rattle.cbl_base.specs.NodeLaw.{Rule}
use Rattle.store_turns.specs.Meaning.{graph_of, uses_in}
use Rattle.inc_store.specs.Course.{IsOver}
use Rattle.inc_store.specs.Stores.{IsWithin}
use Rattle.inc_store.proofs.CourseTurn.{over, same_over}
use Rattle.inc_store.proofs.turns.run.Goals as goal

pub turn-requires : goal.turn-requires
turn-requires g c κs within =
    let inv = c.loop-turn.invariant in
    (search (rules, within), (search (rules, within), (inv.ready, (inv.frame, (inv.course, inv.high)))))

pub returns-in_default-clause-over : goal.returns-in_default-clause-over
returns-in_default-clause-over g c =
    let inv = c.loop-turn.invariant in
    let told = rw c.in_default.is at c.in_ok-turn.ensures.over in
    subst (λ (rs : List Rule). IsOver rs (map g.N.NodeRule.held c.turn.new.nodes.items) c.args.frame.now g.trace c.turn.new.cells c.turn.new.course c.turn.new.steps) inv.rules
    (same_over (map g.N.NodeRule.rule c.loop-turn.nodes.items) c.args.frame.now g.trace (map g.N.NodeRule.held c.loop-turn.nodes.items) (map g.N.NodeRule.held c.turn.new.nodes.items) c.loop-turn.cells c.turn.new.cells c.loop-turn.course c.turn.new.course (c.loop-turn.steps + 1) c.turn.new.steps
    told.1 told.2 told.3 told.4 told.5
    (over (map g.N.NodeRule.rule c.loop-turn.nodes.items) c.args.frame.now g.trace inv.frame (map g.N.NodeRule.held c.loop-turn.nodes.items) c.loop-turn.cells c.loop-turn.course c.loop-turn.front (c.loop-turn.steps + 1) inv.course inv.high told.0))

pub returns-in_default-clause-limit : goal.returns-in_default-clause-limit
returns-in_default-clause-limit g c =
    subst (λ (rs : List Rule). IsWithin (graph_of rs c.args.frame.now) g.trace.before g.trace.target g.trace.moved (uses_in c.args.frame.now) g.trace.base c.turn.new.steps) c.loop-turn.invariant.rules c.turn.ensures.limit

pub returns-in_err-turn-clause-limit : goal.returns-in_err-turn-clause-limit
returns-in_err-turn-clause-limit g c =
    subst (λ (rs : List Rule). IsWithin (graph_of rs c.args.frame.now) g.trace.before g.trace.target g.trace.moved (uses_in c.args.frame.now) g.trace.base c.turn.new.steps) c.loop-turn.invariant.rules c.turn.ensures.limit
