use Rattle.std.proofs.Common.{arith, rules, map, refl, sym, ◌∙◌}
use Rattle.store_turns.specs.Cones.{has}
use Rattle.trial.specs.Parts.{moves_of}
use Rattle.trial.proofs.Probing.{none_of, some_of, member, part_is, moves_are, nothing_moved, difference_told, stopped_told, steps_told, below_told}
use Rattle.trial.proofs.trial_calls.told.Goals as goal

pub returns-then-not-any_moves-clause-told : goal.returns-then-not-any_moves-clause-told
returns-then-not-any_moves-clause-told g c = record {
  difference = nothing_moved (map g.N.NodeRule.rule c.args.store.now.nodes.items) (map g.N.NodeRule.held c.args.store.now.nodes.items) c.args.store.now.frame c.args.store.now.cells c.requires.usable.2 c.args.moves.now c.args.cone.now c.requires.cone c.requires.target c.as_slice-members.result.now c.as_slice-members.ensures.value (none_of (moves_of (has c.as_slice-members.result.now) c.args.moves.now) (sym c.any_moves.ensures ∙ c.if-not-any_moves.true)) c.requires.number;
  fault = tt;
  steps_in_all = λ o meaning. omega arith;
  steps_below = λ o meaning test all. omega arith;
}

pub answer-found-requires : goal.answer-found-requires
answer-found-requires g c κs within =
    let some = some_of (moves_of (has c.as_slice-members.result.now) c.args.moves.now) (sym c.any_moves.ensures ∙ c.if-not-any_moves.false) in (
      search (rules, within),
      (
        search (rules, within),
        (
          c.requires.usable,
          (
            c.requires.empty,
            (
              part_is (map g.N.NodeRule.rule c.args.store.now.nodes.items) (map g.N.NodeRule.held c.args.store.now.nodes.items) c.args.store.now.frame c.args.store.now.cells c.requires.usable.2 c.args.moves.now c.args.cone.now c.requires.cone c.requires.target c.as_slice-members.result.now c.as_slice-members.ensures.value,
              (refl, (refl, (moves_are (map g.N.NodeRule.rule c.args.store.now.nodes.items) (map g.N.NodeRule.held c.args.store.now.nodes.items) c.args.store.now.frame c.args.store.now.cells c.requires.usable.2 c.args.moves.now c.args.cone.now c.requires.cone c.requires.target c.as_slice-members.result.now c.as_slice-members.ensures.value c.requires.moves, (some, (c.requires.target, (member (map g.N.NodeRule.rule c.args.store.now.nodes.items) (map g.N.NodeRule.held c.args.store.now.nodes.items) c.args.store.now.frame c.args.store.now.cells c.requires.usable.2 c.args.moves.now c.args.cone.now c.requires.cone c.requires.target c.as_slice-members.result.now c.as_slice-members.ensures.value, c.requires.number)))))),
            ),
          ),
        ),
      ),
    )

pub returns-clause-told : goal.returns-clause-told
returns-clause-told g c = record {
  difference = difference_told (map g.N.NodeRule.rule c.args.store.now.nodes.items) (map g.N.NodeRule.held c.args.store.now.nodes.items) c.args.store.now.frame c.args.store.now.cells c.requires.usable.2 c.args.moves.now c.args.cone.now c.requires.cone c.requires.target c.as_slice-members.result.now c.as_slice-members.ensures.value c.args.steps.now c.answer-found.result c.answer-found.ensures.difference;
  fault = stopped_told (map g.N.NodeRule.rule c.args.store.now.nodes.items) (map g.N.NodeRule.held c.args.store.now.nodes.items) c.args.store.now.frame c.args.store.now.cells c.requires.usable.2 c.args.moves.now c.args.cone.now c.requires.cone c.requires.target c.as_slice-members.result.now c.as_slice-members.ensures.value c.args.steps.now c.answer-found.result c.answer-found.ensures.fault;
  steps_in_all = steps_told (map g.N.NodeRule.rule c.args.store.now.nodes.items) (map g.N.NodeRule.held c.args.store.now.nodes.items) c.args.store.now.frame c.args.store.now.cells c.requires.usable.2 c.args.moves.now c.args.cone.now c.requires.cone c.requires.target c.as_slice-members.result.now c.as_slice-members.ensures.value c.args.steps.now c.answer-found.new.steps c.answer-found.ensures.steps;
  steps_below = below_told (map g.N.NodeRule.rule c.args.store.now.nodes.items) (map g.N.NodeRule.held c.args.store.now.nodes.items) c.args.store.now.frame c.args.store.now.cells c.requires.usable.2 c.args.moves.now c.args.cone.now c.requires.cone c.requires.target c.as_slice-members.result.now c.as_slice-members.ensures.value c.args.steps.now c.answer-found.new.steps c.answer-found.ensures.steps;
}
