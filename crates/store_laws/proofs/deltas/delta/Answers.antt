use Rattle.store_laws.proofs.Trials.{may_move, model_steps, store_told, target_number, target_within}
use Rattle.store_laws.proofs.deltas.delta.Goals as goal

pub difference-requires-clause-moves : goal.difference-requires-clause-moves
difference-requires-clause-moves g c =
    let r = c.requires.1.1 in
    let q = r.1.0 in
    may_move g.N.NodeRule.rule g.N.NodeRule.held g.N.NodeRule.ready g.question.setting c.args.store.now r.0 g.question.whole q.whole c.args.target.0 r.1.1.0 g.question.change c.args.moves.now q.change q.proper q.undefined

pub difference-requires-clause-target : goal.difference-requires-clause-target
difference-requires-clause-target g c =
    let r = c.requires.1.1 in
    target_within g.N.NodeRule.rule g.N.NodeRule.held g.N.NodeRule.ready g.question.setting c.args.store.now r.0 g.question.whole r.1.0.whole c.args.target.0 r.1.1.0

pub difference-requires-clause-number : goal.difference-requires-clause-number
difference-requires-clause-number g c =
    let r = c.requires.1.1 in
    target_number g.N.NodeRule.rule g.N.NodeRule.held g.N.NodeRule.ready g.question.setting c.args.store.now r.0 g.question.whole r.1.0.whole c.args.target.0 r.1.1.0

pub returns-clause-told : goal.returns-clause-told
returns-clause-told g c =
    let r = c.requires.1.1 in
    let q = r.1.0 in
    store_told g.N.NodeRule.rule g.N.NodeRule.held g.N.NodeRule.ready g.question.setting c.args.store.now r.0 g.question.whole q.whole c.args.target.0 r.1.1.0 g.question.change c.args.moves.now q.change q.proper q.undefined c.difference.result c.difference.ensures.difference c.difference.ensures.fault

pub returns-clause-steps : goal.returns-clause-steps
returns-clause-steps g c =
    let r = c.requires.1.1 in
    let q = r.1.0 in
    model_steps g.N.NodeRule.rule g.N.NodeRule.held g.N.NodeRule.ready g.question.setting c.args.store.now r.0 g.question.whole q.whole c.args.target.0 r.1.1.0 g.question.change c.args.moves.now q.change q.proper q.undefined r.1.1.1 _ _ c.difference.ensures.steps_in_all
