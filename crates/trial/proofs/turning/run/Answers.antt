use Rattle.std.proofs.Common.{rules, ◌≡◌, ◌+◌, ◌*◌, ◌≤◌, map, sym, ap, ◌∙◌, subst, arith}
use Rattle.store_turns.specs.declared.frame.Frame.{Frame}
use Rattle.store_turns.specs.Cones.{has}
use Rattle.store_turns.specs.Meaning.{layer_of}
use Rattle.store_turns.specs.Turns.{rank}
use Rattle.trial.proofs.Imagined.{limit_state}
use Rattle.trial.proofs.PartTurns.{small}
use Rattle.trial.proofs.Stops.{stopped}
use Rattle.trial.proofs.turning.run.Goals as goal

pub turn-requires : goal.turn-requires
turn-requires g c κs within =
    let inv = c.loop-turn.invariant in
    (search (rules, within), (search (rules, within), (c.requires.1.1.0, (c.requires.1.1.1.0, (inv.course, inv.high)))))

pub returns-in_default-clause-known : goal.returns-in_default-clause-known
returns-in_default-clause-known g c =
    let told = rw c.in_default.is at c.in_ok-turn.ensures.over in
    let place : c.turn_of-last.result.layer * 4294967296 + c.turn_of-last.result.id ≡ rank (layer_of g.query.part.frame) c.args.target.0 =
    ap (λ l. l * 4294967296 + c.turn_of-last.result.id) (c.turn_of-last.ensures.layer ∙ ap (λ (f : Frame). layer_of f c.args.target.0) c.frame.ensures ∙ sym (c.requires.1.1.1.0.inside c.args.target.0 c.requires.1.1.1.1.0 c.requires.1.1.1.1.1.0).layer)
    ∙ ap (λ i. layer_of g.query.part.frame c.args.target.0 * 4294967296 + i) c.turn_of-last.ensures.id in
    stopped g.query.part.rules g.query.part.helds g.query.part.frame g.query.part.cells c.requires.1.1.1.0.kept g.query.ask c.loop-turn.overlay c.loop-turn.front (c.loop-turn.steps + 4) c.loop-turn.invariant.course c.loop-turn.invariant.high c.args.target.0
    (λ j lt low. told.0 j (small (map g.N.NodeRule.rule c.args.store.now.nodes.items) c.args.store.now.frame c.args.store.now.cells (has c.args.members.now) g.query.part c.requires.1.1.1.0 j lt) (subst (λ n. rank (layer_of g.query.part.frame) j ≤ n) (sym place) low)) c.turn.new.overlay.lost c.turn.new.overlay.changes c.turn.new.overlay.roots told.1 told.2 told.3

pub returns-in_default-clause-spare : goal.returns-in_default-clause-spare
returns-in_default-clause-spare g c =
    let told = rw c.in_default.is at c.in_ok-turn.ensures.over in
    limit_state g.query.part.rules g.query.part.helds g.query.part.frame g.query.part.cells c.requires.1.1.1.0.kept g.query.ask c.loop-turn.overlay c.loop-turn.front (c.loop-turn.steps + 4) c.loop-turn.invariant.course c.loop-turn.invariant.high (c.turn.new.steps + 3) (omega (arith, told.4))
