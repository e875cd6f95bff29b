use Rattle.std.proofs.Common.{subst, sym}
use Rattle.std.proofs.lemmas.Result.{on_ok_weaker}
use Rattle.model_store.specs.Settings.{users_in}
use Rattle.store_turns.specs.Meaning.{Graph}
use Rattle.store_laws.specs.ModelTouch.{IsWhole}
use Rattle.store_laws.proofs.CommitSteps.{same_graph}
use Rattle.store_laws.proofs.WeightSteps.{weight_steps}
use Rattle.store_laws.proofs.weights.set_weights.Goals as goal

pub returns-clause-steps : goal.returns-clause-steps
returns-clause-steps g c =
    let r = c.requires.1 in
    weight_steps g.N.NodeRule.rule g.N.NodeRule.held g.N.NodeRule.ready g.weighing c.args.store.now r.1.0 c.args.moves.now r.1.1.1.0 r.1.1.1.1.0 r.1.1.1.1.1 _ _ c.set_weights.ensures.steps

pub returns-clause-whole : goal.returns-clause-whole
returns-clause-whole g c =
    on_ok_weaker c.set_weights.result
    (λ keeps. subst (λ (graph : Graph). IsWhole (users_in g.weighing.setting) g.weighing.model graph) (sym (same_graph g.N.NodeRule.rule c.args.store.now c.set_weights.new.store keeps)) c.requires.1.1.1.1.1.1) c.set_weights.ensures.nodes
