use Rattle.std.proofs.Common.{◌≡◌, Ok, map}
use Rattle.std.proofs.lemmas.Result.{IfOk-weaker, IfErr-weaker}
use Rattle.model_store.specs.ModelStores.{IsStoreOf, values_in}
use Rattle.model_store.specs.Settings.{fresh_in}
use Rattle.model_store.proofs.StoreLemmas.{agrees, built_result, given_fault, given_takes, has_values}
use Rattle.model_store.proofs.stores.build.Goals as goal

pub build-requires-clause-takes : goal.build-requires-clause-takes
build-requires-clause-takes g c = λ o meaning. given_takes g.setting _ _ _ c.requires.1.1.1.0 c.requires.1.1.1.1.0 c.requires.1.1.0 o meaning

pub returns-clause-store : goal.returns-clause-store
returns-clause-store g c =
    let b = c.build.ensures in
    built_result g.N.NodeRule.rule g.N.NodeRule.held g.N.NodeRule.ready g.setting (map g.N.NodeRule.rule c.args.nodes.items) c.args.start.now c.args.links.inputs.items c.requires.1.1.1.0 c.requires.1.1.1.1.0 c.requires.1.1.0.0 c.build.result b.usable b.first b.graph b.free

pub returns-clause-values : goal.returns-clause-values
returns-clause-values g c =
    IfOk-weaker c.build.result (λ s. IsStoreOf g.N.NodeRule.rule g.N.NodeRule.held g.N.NodeRule.ready g.setting s) (λ s. fresh_in g.setting ≡ Ok (values_in g.setting s))
    (λ s is. has_values g.N.NodeRule.rule g.N.NodeRule.held g.N.NodeRule.ready g.setting s is) (returns-clause-store g c)

pub returns-clause-fault : goal.returns-clause-fault
returns-clause-fault g c =
    IfErr-weaker c.build.result _ _ (λ stop first. given_fault g.setting (map g.N.NodeRule.rule c.args.nodes.items) c.args.start.now c.args.links.inputs.items c.requires.1.1.1.0 c.requires.1.1.1.1.0 c.requires.1.1.0.0 stop first) c.build.ensures.fault

pub returns-clause-agrees : goal.returns-clause-agrees
returns-clause-agrees g c = agrees g.setting (λ s. values_in g.setting s) c.build.result (returns-clause-values g c) (returns-clause-fault g c)
