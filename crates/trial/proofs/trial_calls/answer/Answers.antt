use Rattle.std.proofs.Common.{rules, map, refl, arith}
use Rattle.store_turns.specs.Cones.{has}
use Rattle.trial.proofs.OneMove.{first_state}
use Rattle.trial.proofs.PartTurns.{large}
use Rattle.trial.proofs.trial_calls.answer.Goals as goal

pub move_all-requires : goal.move_all-requires
move_all-requires g c κs within =
    let state = first_state g.query.part.rules g.query.part.helds g.query.part.frame g.query.part.cells c.requires.1.1.1.1.0.kept g.query.ask c.args.overlay.now g.query.ask.moves c.args.steps.now refl c.requires.1.1.1.1.1.1.0 c.requires.1.1.1.1.1.1.1.0 c.requires.1.1.1.1.1.1.1.1.0 c.requires.1.1.1.0 in
    (search (rules, within), (search (rules, within), (c.requires.1.1.0, (c.requires.1.1.1.1.0, (c.requires.1.1.1.1.1.1.1.0, (c.requires.1.1.1.1.1.0, state))))))

pub run-requires : goal.run-requires
run-requires g c κs within =
    (search (rules, within), (search (rules, within), (c.requires.1.1.0, (c.requires.1.1.1.1.0, (c.requires.1.1.1.1.1.1.1.1.1.0, (c.requires.1.1.1.1.1.1.1.1.1.1.0, c.in_ok-move_all.ensures.course))))))

pub conclude-requires : goal.conclude-requires
conclude-requires g c κs within =
    let large_target = large (map g.N.NodeRule.rule c.args.store.now.nodes.items) c.args.store.now.frame c.args.store.now.cells (has c.args.members.now) g.query.part c.requires.1.1.1.1.0 c.args.target.0 c.requires.1.1.1.1.1.1.1.1.1.0 in
    let inside = c.requires.1.1.1.1.0.inside c.args.target.0 c.requires.1.1.1.1.1.1.1.1.1.0 c.requires.1.1.1.1.1.1.1.1.1.1.0 in
    (search (rules, within), (search (rules, within), (c.requires.1.1.0, (c.requires.1.1.1.1.0.kept, (large_target, (c.requires.1.1.1.1.1.1.1.1.1.0, (inside.value, (c.requires.1.1.1.1.1.1.1.1.1.1.1, c.in_ok-run.ensures.known))))))))

pub returns-clause-steps : goal.returns-clause-steps
returns-clause-steps g c = λ o meaning.
    let a = c.in_ok-run.ensures.spare o meaning in
    omega (arith, a, c.conclude.ensures.steps)
