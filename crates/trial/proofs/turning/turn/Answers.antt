use Rattle.std.proofs.Common.{◌+◌, ◌*◌, ◌<◌, All, length, map, sym, ap, ◌∙◌, refl, subst, arith}
use Rattle.std.specs.BTreeMap.{get}
use Rattle.std.specs.Ordering.{nat_cmp}
use Rattle.cbl_base.specs.Inputs.{kind_of}
use Rattle.store_turns.specs.declared.frame.Frame.{Frame}
use Rattle.store_turns.specs.Cones.{has}
use Rattle.store_turns.specs.Meaning.{layer_of, uses_in}
use Rattle.store_turns.specs.Waits.{waits, taken_of}
use Rattle.trial.proofs.Imagined.{key, changes_asked, one_asked, unlost, kind_asked, next, limit_asked, limit_popped, limit_state, past_all, not_below, is_below}
use Rattle.trial.proofs.PartTurns.{small, large, passing, one_part, changes_part, asked_part, told_part, noted_part, steps_part}
use Rattle.trial.proofs.turning.turn.Goals as goal

pub read-old-requires-clause-within : goal.read-old-requires-clause-within
read-old-requires-clause-within g c =
    small (map g.N.NodeRule.rule c.args.store.now.nodes.items) c.args.store.now.frame c.args.store.now.cells (has c.args.members.now) g.query.part c.requires.1.1.1.0 c.in-Some.turn.id (key g.query.part.rules g.query.part.helds g.query.part.frame g.query.part.cells c.requires.1.1.1.0.kept g.query.ask c.args.overlay.now c.args.front (c.args.steps.now + 4) c.requires.1.1.1.1.0 c.requires.1.1.1.1.1 c.in-Some.turn.layer c.in-Some.turn.id (taken_of c.pop.new.self) (waits c.pop.new.self) c.in-Some.ensures.taken.taken c.in-Some.ensures.taken.least c.in-Some.ensures.taken.here c.in-Some.ensures.taken.elsewhere).1

pub came_to-requires-clause-within : goal.came_to-requires-clause-within
came_to-requires-clause-within g c =
    small (map g.N.NodeRule.rule c.args.store.now.nodes.items) c.args.store.now.frame c.args.store.now.cells (has c.args.members.now) g.query.part c.requires.1.1.1.0 c.in-Some.turn.id (key g.query.part.rules g.query.part.helds g.query.part.frame g.query.part.cells c.requires.1.1.1.0.kept g.query.ask c.args.overlay.now c.args.front (c.args.steps.now + 4) c.requires.1.1.1.1.0 c.requires.1.1.1.1.1 c.in-Some.turn.layer c.in-Some.turn.id (taken_of c.pop.new.self) (waits c.pop.new.self) c.in-Some.ensures.taken.taken c.in-Some.ensures.taken.least c.in-Some.ensures.taken.here c.in-Some.ensures.taken.elsewhere).1

pub came_to-requires-clause-one : goal.came_to-requires-clause-one
came_to-requires-clause-one g c =
    let here = key g.query.part.rules g.query.part.helds g.query.part.frame g.query.part.cells c.requires.1.1.1.0.kept g.query.ask c.args.overlay.now c.args.front (c.args.steps.now + 4) c.requires.1.1.1.1.0 c.requires.1.1.1.1.1 c.in-Some.turn.layer c.in-Some.turn.id (taken_of c.pop.new.self) (waits c.pop.new.self) c.in-Some.ensures.taken.taken c.in-Some.ensures.taken.least c.in-Some.ensures.taken.here c.in-Some.ensures.taken.elsewhere in
    let lt = small (map g.N.NodeRule.rule c.args.store.now.nodes.items) c.args.store.now.frame c.args.store.now.cells (has c.args.members.now) g.query.part c.requires.1.1.1.0 c.in-Some.turn.id here.1 in
    let t = passing (map g.N.NodeRule.rule c.args.store.now.nodes.items) c.args.store.now.frame c.args.store.now.cells (has c.args.members.now) g.query.part c.requires.1.1.1.0 c.in-Some.turn.id here.2 in
    one_part (map g.N.NodeRule.rule c.args.store.now.nodes.items) c.args.store.now.frame c.args.store.now.cells (has c.args.members.now) g.query.part c.requires.1.1.1.0 c.in-Some.turn.id lt t (one_asked g.query.part.rules g.query.part.helds g.query.part.frame g.query.part.cells c.requires.1.1.1.0.kept g.query.ask c.args.overlay.now c.args.front (c.args.steps.now + 4) c.requires.1.1.1.1.0 c.requires.1.1.1.1.1 c.in-Some.turn.layer c.in-Some.turn.id (taken_of c.pop.new.self) (waits c.pop.new.self) c.in-Some.ensures.taken.taken c.in-Some.ensures.taken.least c.in-Some.ensures.taken.here c.in-Some.ensures.taken.elsewhere)

pub came_to-requires-clause-changes : goal.came_to-requires-clause-changes
came_to-requires-clause-changes g c =
    let here = key g.query.part.rules g.query.part.helds g.query.part.frame g.query.part.cells c.requires.1.1.1.0.kept g.query.ask c.args.overlay.now c.args.front (c.args.steps.now + 4) c.requires.1.1.1.1.0 c.requires.1.1.1.1.1 c.in-Some.turn.layer c.in-Some.turn.id (taken_of c.pop.new.self) (waits c.pop.new.self) c.in-Some.ensures.taken.taken c.in-Some.ensures.taken.least c.in-Some.ensures.taken.here c.in-Some.ensures.taken.elsewhere in
    let lt = small (map g.N.NodeRule.rule c.args.store.now.nodes.items) c.args.store.now.frame c.args.store.now.cells (has c.args.members.now) g.query.part c.requires.1.1.1.0 c.in-Some.turn.id here.1 in
    let t = passing (map g.N.NodeRule.rule c.args.store.now.nodes.items) c.args.store.now.frame c.args.store.now.cells (has c.args.members.now) g.query.part c.requires.1.1.1.0 c.in-Some.turn.id here.2 in
    changes_part (map g.N.NodeRule.rule c.args.store.now.nodes.items) c.args.store.now.frame c.args.store.now.cells (has c.args.members.now) g.query.part c.requires.1.1.1.0 c.in-Some.turn.id lt t (taken_of c.pop.new.self) (changes_asked g.query.part.rules g.query.part.helds g.query.part.frame g.query.part.cells c.requires.1.1.1.0.kept g.query.ask c.args.overlay.now c.args.front (c.args.steps.now + 4) c.requires.1.1.1.1.0 c.requires.1.1.1.1.1 c.in-Some.turn.layer c.in-Some.turn.id (taken_of c.pop.new.self) (waits c.pop.new.self) c.in-Some.ensures.taken.taken c.in-Some.ensures.taken.least c.in-Some.ensures.taken.here c.in-Some.ensures.taken.elsewhere)

pub settle-requires-clause-lists : goal.settle-requires-clause-lists
settle-requires-clause-lists g c =
    let here = key g.query.part.rules g.query.part.helds g.query.part.frame g.query.part.cells c.requires.1.1.1.0.kept g.query.ask c.args.overlay.now c.args.front (c.args.steps.now + 4) c.requires.1.1.1.1.0 c.requires.1.1.1.1.1 c.in-Some.turn.layer c.in-Some.turn.id (taken_of c.pop.new.self) (waits c.pop.new.self) c.in-Some.ensures.taken.taken c.in-Some.ensures.taken.least c.in-Some.ensures.taken.here c.in-Some.ensures.taken.elsewhere in
    let lt = small (map g.N.NodeRule.rule c.args.store.now.nodes.items) c.args.store.now.frame c.args.store.now.cells (has c.args.members.now) g.query.part c.requires.1.1.1.0 c.in-Some.turn.id here.1 in
    let many = c.requires.1.1.0.2.framed.uses in
    let same = ap (λ (f : Frame). length f.uses.items) c.frame-frame.ensures in
    omega (arith, lt, many, same)

pub settle-requires-clause-users : goal.settle-requires-clause-users
settle-requires-clause-users g c =
    subst (λ (f : Frame). All (λ u. u.0.0 < length f.layers.items) (uses_in f c.in-Some.turn.id)) (sym c.frame-frame.ensures) (c.requires.1.1.0.2.framed.users c.in-Some.turn.id)

pub settle-requires-clause-unlost : goal.settle-requires-clause-unlost
settle-requires-clause-unlost g c =
    unlost g.query.part.rules g.query.part.helds g.query.part.frame g.query.part.cells c.requires.1.1.1.0.kept g.query.ask c.args.overlay.now c.args.front (c.args.steps.now + 4) c.requires.1.1.1.1.0 c.requires.1.1.1.1.1 c.in-Some.turn.layer c.in-Some.turn.id (taken_of c.pop.new.self) (waits c.pop.new.self) c.in-Some.ensures.taken.taken c.in-Some.ensures.taken.least c.in-Some.ensures.taken.here c.in-Some.ensures.taken.elsewhere

pub settle-requires-clause-kinds : goal.settle-requires-clause-kinds
settle-requires-clause-kinds g c =
    let here = key g.query.part.rules g.query.part.helds g.query.part.frame g.query.part.cells c.requires.1.1.1.0.kept g.query.ask c.args.overlay.now c.args.front (c.args.steps.now + 4) c.requires.1.1.1.1.0 c.requires.1.1.1.1.1 c.in-Some.turn.layer c.in-Some.turn.id (taken_of c.pop.new.self) (waits c.pop.new.self) c.in-Some.ensures.taken.taken c.in-Some.ensures.taken.least c.in-Some.ensures.taken.here c.in-Some.ensures.taken.elsewhere in
    let lt = small (map g.N.NodeRule.rule c.args.store.now.nodes.items) c.args.store.now.frame c.args.store.now.cells (has c.args.members.now) g.query.part c.requires.1.1.1.0 c.in-Some.turn.id here.1 in
    let t = passing (map g.N.NodeRule.rule c.args.store.now.nodes.items) c.args.store.now.frame c.args.store.now.cells (has c.args.members.now) g.query.part c.requires.1.1.1.0 c.in-Some.turn.id here.2 in
    λ x is. kind_asked g.query.part.rules g.query.part.helds g.query.part.frame g.query.part.cells c.requires.1.1.1.0.kept g.query.ask c.args.overlay.now c.args.front (c.args.steps.now + 4) c.requires.1.1.1.1.0 c.requires.1.1.1.1.1 c.in-Some.turn.layer c.in-Some.turn.id (taken_of c.pop.new.self) (waits c.pop.new.self) c.in-Some.ensures.taken.taken c.in-Some.ensures.taken.least c.in-Some.ensures.taken.here c.in-Some.ensures.taken.elsewhere c.in_ok-outcome.outcome (c.in_ok-outcome.ensures.outcome ∙ asked_part (map g.N.NodeRule.rule c.args.store.now.nodes.items) c.args.store.now.frame c.args.store.now.cells (has c.args.members.now) g.query.part c.requires.1.1.1.0 c.in-Some.turn.id lt t c.args.overlay.now (taken_of c.pop.new.self)) x is ∙ ap kind_of (c.requires.1.1.1.0.inside c.in-Some.turn.id lt t).value ∙ ap kind_of (sym c.read-old.ensures.value)

pub returns-in_default-clause-limit : goal.returns-in_default-clause-limit
returns-in_default-clause-limit g c =
    limit_state g.query.part.rules g.query.part.helds g.query.part.frame g.query.part.cells c.requires.1.1.1.0.kept g.query.ask c.args.overlay.now c.args.front (c.args.steps.now + 4) c.requires.1.1.1.1.0 c.requires.1.1.1.1.1 c.pop.new.steps (omega (arith, c.pop.ensures.steps))

pub returns-in_default-clause-over : goal.returns-in_default-clause-over
returns-in_default-clause-over g c =
    let none = rw c.in_default.is at c.pop.ensures.taken in
    ((λ j lt low. none (layer_of g.query.part.frame j) j), refl, refl, refl, c.pop.ensures.steps)

pub returns-then-is_past-clause-over : goal.returns-then-is_past-clause-over
returns-then-is_past-clause-over g c = (
  (λ j lt low. past_all g.query.part.rules g.query.part.helds g.query.part.frame g.query.part.cells c.requires.1.1.1.0.kept g.query.ask c.args.overlay.now c.args.front (c.args.steps.now + 4) c.requires.1.1.1.1.0 c.requires.1.1.1.1.1 c.in-Some.turn.layer c.in-Some.turn.id (taken_of c.pop.new.self) (waits c.pop.new.self) c.in-Some.ensures.taken.taken c.in-Some.ensures.taken.least c.in-Some.ensures.taken.here c.in-Some.ensures.taken.elsewhere (c.args.target.layer * 4294967296 + c.args.target.id) (is_below (c.args.target.layer * 4294967296 + c.args.target.id) (c.in-Some.turn.layer * 4294967296 + c.in-Some.turn.id) (sym c.is_past.ensures ∙ c.if-is_past.true)) j (large (map g.N.NodeRule.rule c.args.store.now.nodes.items) c.args.store.now.frame c.args.store.now.cells (has c.args.members.now) g.query.part c.requires.1.1.1.0 j lt) low),
  refl,
  refl,
  refl,
  c.pop.ensures.steps,
)

pub returns-then-is_past-clause-limit : goal.returns-then-is_past-clause-limit
returns-then-is_past-clause-limit g c =
    limit_popped g.query.part.rules g.query.part.helds g.query.part.frame g.query.part.cells c.requires.1.1.1.0.kept g.query.ask c.args.overlay.now c.args.front (c.args.steps.now + 4) c.requires.1.1.1.1.0 c.requires.1.1.1.1.1 c.in-Some.turn.layer c.in-Some.turn.id (taken_of c.pop.new.self) (waits c.pop.new.self) c.in-Some.ensures.taken.taken c.in-Some.ensures.taken.least c.in-Some.ensures.taken.here c.in-Some.ensures.taken.elsewhere c.pop.new.steps (omega (arith, c.pop.ensures.steps))

pub returns-in_err-outcome-clause-limit : goal.returns-in_err-outcome-clause-limit
returns-in_err-outcome-clause-limit g c =
    limit_popped g.query.part.rules g.query.part.helds g.query.part.frame g.query.part.cells c.requires.1.1.1.0.kept g.query.ask c.args.overlay.now c.args.front (c.args.steps.now + 4) c.requires.1.1.1.1.0 c.requires.1.1.1.1.1 c.in-Some.turn.layer c.in-Some.turn.id (taken_of c.pop.new.self) (waits c.pop.new.self) c.in-Some.ensures.taken.taken c.in-Some.ensures.taken.least c.in-Some.ensures.taken.here c.in-Some.ensures.taken.elsewhere c.came_to.new.steps (omega (arith, c.pop.ensures.steps, c.read-old.ensures.steps, c.came_to.ensures.steps))

pub returns-in_err-settle-clause-limit : goal.returns-in_err-settle-clause-limit
returns-in_err-settle-clause-limit g c =
    let here = key g.query.part.rules g.query.part.helds g.query.part.frame g.query.part.cells c.requires.1.1.1.0.kept g.query.ask c.args.overlay.now c.args.front (c.args.steps.now + 4) c.requires.1.1.1.1.0 c.requires.1.1.1.1.1 c.in-Some.turn.layer c.in-Some.turn.id (taken_of c.pop.new.self) (waits c.pop.new.self) c.in-Some.ensures.taken.taken c.in-Some.ensures.taken.least c.in-Some.ensures.taken.here c.in-Some.ensures.taken.elsewhere in
    let lt = small (map g.N.NodeRule.rule c.args.store.now.nodes.items) c.args.store.now.frame c.args.store.now.cells (has c.args.members.now) g.query.part c.requires.1.1.1.0 c.in-Some.turn.id here.1 in
    let t = passing (map g.N.NodeRule.rule c.args.store.now.nodes.items) c.args.store.now.frame c.args.store.now.cells (has c.args.members.now) g.query.part c.requires.1.1.1.0 c.in-Some.turn.id here.2 in
    let share = steps_part (map g.N.NodeRule.rule c.args.store.now.nodes.items) c.args.store.now.frame c.args.store.now.cells (has c.args.members.now) g.query.part c.requires.1.1.1.0 c.in-Some.turn.id c.in_ok-outcome.outcome lt t in
    limit_asked g.query.part.rules g.query.part.helds g.query.part.frame g.query.part.cells c.requires.1.1.1.0.kept g.query.ask c.args.overlay.now c.args.front (c.args.steps.now + 4) c.requires.1.1.1.1.0 c.requires.1.1.1.1.1 c.in-Some.turn.layer c.in-Some.turn.id (taken_of c.pop.new.self) (waits c.pop.new.self) c.in-Some.ensures.taken.taken c.in-Some.ensures.taken.least c.in-Some.ensures.taken.here c.in-Some.ensures.taken.elsewhere c.in_ok-outcome.outcome (c.in_ok-outcome.ensures.outcome ∙ asked_part (map g.N.NodeRule.rule c.args.store.now.nodes.items) c.args.store.now.frame c.args.store.now.cells (has c.args.members.now) g.query.part c.requires.1.1.1.0 c.in-Some.turn.id lt t c.args.overlay.now (taken_of c.pop.new.self)) c.settle.new.steps (let s = rw (c.frame-frame.ensures, c.read-old.ensures.value) at c.settle.ensures.steps in omega (arith, share, c.pop.ensures.steps, c.read-old.ensures.steps, c.in_ok-outcome.ensures.spare, c.root_of-root.ensures.steps, s))

pub returns-clause-limit : goal.returns-clause-limit
returns-clause-limit g c =
    let here = key g.query.part.rules g.query.part.helds g.query.part.frame g.query.part.cells c.requires.1.1.1.0.kept g.query.ask c.args.overlay.now c.args.front (c.args.steps.now + 4) c.requires.1.1.1.1.0 c.requires.1.1.1.1.1 c.in-Some.turn.layer c.in-Some.turn.id (taken_of c.pop.new.self) (waits c.pop.new.self) c.in-Some.ensures.taken.taken c.in-Some.ensures.taken.least c.in-Some.ensures.taken.here c.in-Some.ensures.taken.elsewhere in
    let lt = small (map g.N.NodeRule.rule c.args.store.now.nodes.items) c.args.store.now.frame c.args.store.now.cells (has c.args.members.now) g.query.part c.requires.1.1.1.0 c.in-Some.turn.id here.1 in
    let t = passing (map g.N.NodeRule.rule c.args.store.now.nodes.items) c.args.store.now.frame c.args.store.now.cells (has c.args.members.now) g.query.part c.requires.1.1.1.0 c.in-Some.turn.id here.2 in
    let share = steps_part (map g.N.NodeRule.rule c.args.store.now.nodes.items) c.args.store.now.frame c.args.store.now.cells (has c.args.members.now) g.query.part c.requires.1.1.1.0 c.in-Some.turn.id c.in_ok-outcome.outcome lt t in
    limit_asked g.query.part.rules g.query.part.helds g.query.part.frame g.query.part.cells c.requires.1.1.1.0.kept g.query.ask c.args.overlay.now c.args.front (c.args.steps.now + 4) c.requires.1.1.1.1.0 c.requires.1.1.1.1.1 c.in-Some.turn.layer c.in-Some.turn.id (taken_of c.pop.new.self) (waits c.pop.new.self) c.in-Some.ensures.taken.taken c.in-Some.ensures.taken.least c.in-Some.ensures.taken.here c.in-Some.ensures.taken.elsewhere c.in_ok-outcome.outcome (c.in_ok-outcome.ensures.outcome ∙ asked_part (map g.N.NodeRule.rule c.args.store.now.nodes.items) c.args.store.now.frame c.args.store.now.cells (has c.args.members.now) g.query.part c.requires.1.1.1.0 c.in-Some.turn.id lt t c.args.overlay.now (taken_of c.pop.new.self)) c.settle.new.steps (let s = rw (c.frame-frame.ensures, c.read-old.ensures.value) at c.settle.ensures.steps in omega (arith, share, c.pop.ensures.steps, c.read-old.ensures.steps, c.in_ok-outcome.ensures.spare, c.root_of-root.ensures.steps, s))

pub returns-clause-turn : goal.returns-clause-turn
returns-clause-turn g c =
    let here = key g.query.part.rules g.query.part.helds g.query.part.frame g.query.part.cells c.requires.1.1.1.0.kept g.query.ask c.args.overlay.now c.args.front (c.args.steps.now + 4) c.requires.1.1.1.1.0 c.requires.1.1.1.1.1 c.in-Some.turn.layer c.in-Some.turn.id (taken_of c.pop.new.self) (waits c.pop.new.self) c.in-Some.ensures.taken.taken c.in-Some.ensures.taken.least c.in-Some.ensures.taken.here c.in-Some.ensures.taken.elsewhere in
    let at = not_below (c.args.target.layer * 4294967296 + c.args.target.id) (c.in-Some.turn.layer * 4294967296 + c.in-Some.turn.id) (sym c.is_past.ensures ∙ c.if-is_past.false) in
    (here.0, small (map g.N.NodeRule.rule c.args.store.now.nodes.items) c.args.store.now.frame c.args.store.now.cells (has c.args.members.now) g.query.part c.requires.1.1.1.0 c.in-Some.turn.id here.1, here.3, omega (arith, at, here.0))

pub returns-clause-course : goal.returns-clause-course
returns-clause-course g c =
    let here = key g.query.part.rules g.query.part.helds g.query.part.frame g.query.part.cells c.requires.1.1.1.0.kept g.query.ask c.args.overlay.now c.args.front (c.args.steps.now + 4) c.requires.1.1.1.1.0 c.requires.1.1.1.1.1 c.in-Some.turn.layer c.in-Some.turn.id (taken_of c.pop.new.self) (waits c.pop.new.self) c.in-Some.ensures.taken.taken c.in-Some.ensures.taken.least c.in-Some.ensures.taken.here c.in-Some.ensures.taken.elsewhere in
    let lt = small (map g.N.NodeRule.rule c.args.store.now.nodes.items) c.args.store.now.frame c.args.store.now.cells (has c.args.members.now) g.query.part c.requires.1.1.1.0 c.in-Some.turn.id here.1 in
    let t = passing (map g.N.NodeRule.rule c.args.store.now.nodes.items) c.args.store.now.frame c.args.store.now.cells (has c.args.members.now) g.query.part c.requires.1.1.1.0 c.in-Some.turn.id here.2 in
    let share = steps_part (map g.N.NodeRule.rule c.args.store.now.nodes.items) c.args.store.now.frame c.args.store.now.cells (has c.args.members.now) g.query.part c.requires.1.1.1.0 c.in-Some.turn.id c.in_ok-outcome.outcome lt t in
    let value = (c.requires.1.1.1.0.inside c.in-Some.turn.id lt t).value in
    next g.query.part.rules g.query.part.helds g.query.part.frame g.query.part.cells c.requires.1.1.1.0.kept g.query.ask c.args.overlay.now c.args.front (c.args.steps.now + 4) c.requires.1.1.1.1.0 c.requires.1.1.1.1.1 c.in-Some.turn.layer c.in-Some.turn.id (taken_of c.pop.new.self) (waits c.pop.new.self) c.in-Some.ensures.taken.taken c.in-Some.ensures.taken.least c.in-Some.ensures.taken.here c.in-Some.ensures.taken.elsewhere c.in_ok-outcome.outcome (c.in_ok-outcome.ensures.outcome ∙ asked_part (map g.N.NodeRule.rule c.args.store.now.nodes.items) c.args.store.now.frame c.args.store.now.cells (has c.args.members.now) g.query.part c.requires.1.1.1.0 c.in-Some.turn.id lt t c.args.overlay.now (taken_of c.pop.new.self)) c.root_of-root.result c.settle.new.overlay (c.settle.new.steps + 4) c.root_of-root.ensures.root
    (rw (sym value) at (told_part (map g.N.NodeRule.rule c.args.store.now.nodes.items) c.args.store.now.frame c.args.store.now.cells (has c.args.members.now) g.query.part c.requires.1.1.1.0 c.in-Some.turn.id _ c.in_ok-outcome.outcome (waits c.pop.new.self) (waits c.settle.new.overlay.waiting) lt (rw (c.frame-frame.ensures, c.read-old.ensures.value) at c.in_ok-settle.ensures.told)))
    c.in_ok-settle.ensures.lost.here c.in_ok-settle.ensures.lost.elsewhere
    (rw (c.read-old.ensures.value, sym value) at c.in_ok-settle.ensures.change.here) c.in_ok-settle.ensures.change.elsewhere
    (λ j. (rw c.frame-frame.ensures at c.in_ok-settle.ensures.roots) j ∙ noted_part (map g.N.NodeRule.rule c.args.store.now.nodes.items) c.args.store.now.frame c.args.store.now.cells (has c.args.members.now) g.query.part c.requires.1.1.1.0 c.in-Some.turn.id j c.root_of-root.result (get nat_cmp c.args.overlay.now.roots j))
    (let s = rw (c.frame-frame.ensures, c.read-old.ensures.value) at c.settle.ensures.steps in omega (arith, share, c.pop.ensures.steps, c.read-old.ensures.steps, c.in_ok-outcome.ensures.spare, c.root_of-root.ensures.steps, s))
