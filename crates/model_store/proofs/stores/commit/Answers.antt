use Rattle.std.proofs.lemmas.Result.{IfErr-weaker, on_ok_weaker}
use Rattle.model_store.specs.ModelStores.{values_in}
use Rattle.model_store.specs.Settings.{after}
use Rattle.model_store.proofs.StoreLemmas.{agrees, has_values, moves_fault, moves_result}
use Rattle.model_store.proofs.stores.commit.Goals as goal

pub returns-clause-store : goal.returns-clause-store
returns-clause-store g c =
    let e = c.commit.ensures in
    moves_result g.N.NodeRule.rule g.N.NodeRule.held g.N.NodeRule.ready g.setting c.args.store.now c.commit.new.self c.requires.1.1.0 c.args.moves.now c.requires.1.1.1.1 c.commit.result e.kept e.nodes e.moved

pub returns-clause-values : goal.returns-clause-values
returns-clause-values g c =
    on_ok_weaker c.commit.result
    (λ is. has_values g.N.NodeRule.rule g.N.NodeRule.held g.N.NodeRule.ready (after c.args.moves.now g.setting) c.commit.new.self is) (returns-clause-store g c)

pub returns-clause-fault : goal.returns-clause-fault
returns-clause-fault g c =
    IfErr-weaker c.commit.result _ _ (λ stop first. moves_fault g.N.NodeRule.rule g.N.NodeRule.held g.N.NodeRule.ready g.setting c.args.store.now c.requires.1.1.0 c.args.moves.now c.requires.1.1.1.1 stop first) c.commit.ensures.fault

pub returns-clause-agrees : goal.returns-clause-agrees
returns-clause-agrees g c = agrees (after c.args.moves.now g.setting) (λ _. values_in g.setting c.commit.new.self) c.commit.result (returns-clause-values g c) (returns-clause-fault g c)
