use Rattle.std.proofs.lemmas.Result.{IfErr-weaker, on_ok_weaker}
use Rattle.model_store.specs.ModelStores.{values_in}
use Rattle.model_store.specs.Weights.{weighed}
use Rattle.model_store.proofs.StoreLemmas.{agrees, has_values}
use Rattle.model_store.proofs.WeightStores.{changed_fault, changed_result}
use Rattle.model_store.proofs.weights.set_weights.Goals as goal

pub returns-clause-store : goal.returns-clause-store
returns-clause-store g c =
    let e = c.commit.ensures in
    changed_result g.N.NodeRule.rule g.N.NodeRule.held g.N.NodeRule.ready g.weighing c.args.store.now c.requires.1.1.0 c.args.moves.now c.requires.1.1.1.1 c.commit.new.self c.commit.result e.kept e.nodes e.moved

pub returns-clause-values : goal.returns-clause-values
returns-clause-values g c =
    on_ok_weaker c.commit.result
    (λ is. has_values g.N.NodeRule.rule g.N.NodeRule.held g.N.NodeRule.ready (weighed g.weighing) c.commit.new.self is) (returns-clause-store g c)

pub returns-clause-fault : goal.returns-clause-fault
returns-clause-fault g c =
    IfErr-weaker c.commit.result _ _ (λ stop first. changed_fault g.N.NodeRule.rule g.N.NodeRule.held g.N.NodeRule.ready g.weighing c.args.store.now c.requires.1.1.0 c.args.moves.now c.requires.1.1.1.1 stop first) c.commit.ensures.fault

pub returns-clause-agrees : goal.returns-clause-agrees
returns-clause-agrees g c = agrees (weighed g.weighing) (λ _. values_in (weighed g.weighing) c.commit.new.self) c.commit.result (returns-clause-values g c) (returns-clause-fault g c)
