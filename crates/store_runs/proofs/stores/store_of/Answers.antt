use Rattle.std.proofs.Common.{length, map, refl, arith}
use Rattle.std.proofs.lemmas.List.{length-map}
use Rattle.std.proofs.lemmas.List.Elements.{All-map}
use Rattle.store_runs.specs.Numbers.{IsOfNumbers}
use Rattle.store_runs.proofs.NumberStores.{are_items, linked, takes}
use Rattle.store_runs.proofs.stores.store_of.Goals as goal

pub plan-requires-clause-items : goal.plan-requires-clause-items
plan-requires-clause-items g c = are_items _ _ _ (c.if-not-are_lists.ensures refl)

pub build-requires-clause-linked : goal.build-requires-clause-linked
build-requires-clause-linked g c =
    linked c.args.lists.now (length c.args.numbers.now) c.len.result (c.if-not-are_lists.ensures refl)
    (map g.N.NodeRule.rule c.args.nodes.items) (length c.args.numbers.now) c.in_ok-links.links.inputs.items c.in_ok-layers.layers
    (omega (arith, length-map c.args.nodes.items g.N.NodeRule.rule, c.len.ensures))
    refl
    c.in_ok-links.ensures c.in_ok-layers.ensures.count c.in_ok-layers.ensures.longest

pub build-requires-clause-takes : goal.build-requires-clause-takes
build-requires-clause-takes g c = λ o meaning.
    takes (map g.N.NodeRule.rule c.args.nodes.items) (All-map IsOfNumbers g.N.NodeRule.rule c.args.nodes.items c.requires) (length c.args.numbers.now) c.in_ok-links.links.inputs.items c.in_ok-layers.layers c.args.numbers.now
    (build-requires-clause-linked g c) o meaning
