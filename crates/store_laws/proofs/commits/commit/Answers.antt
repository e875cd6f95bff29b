use Rattle.std.proofs.Common.{subst, sym}
use Rattle.std.proofs.lemmas.Result.{on_ok_weaker}
use Rattle.model_store.specs.Settings.{users_in}
use Rattle.store_turns.specs.Meaning.{Graph}
use Rattle.store_laws.specs.ModelTouch.{IsWhole}
use Rattle.store_laws.proofs.CommitSteps.{commit_steps, same_graph}
use Rattle.store_laws.proofs.commits.commit.Goals as goal

pub returns-clause-steps : goal.returns-clause-steps
returns-clause-steps g c =
    let r = c.requires.1 in
    commit_steps g.N.NodeRule.rule g.N.NodeRule.held g.N.NodeRule.ready g.setting c.args.store.now r.1.0 c.args.moves.now r.1.1.1.0 r.1.1.1.1 _ _ c.commit.ensures.steps

pub returns-clause-whole : goal.returns-clause-whole
returns-clause-whole g c =
    on_ok_weaker c.commit.result
    (λ keeps. subst (λ (graph : Graph). IsWhole (users_in g.setting) g.setting.model graph) (sym (same_graph g.N.NodeRule.rule c.args.store.now c.commit.new.store keeps)) c.requires.1.1.1.1.1) c.commit.ensures.nodes
