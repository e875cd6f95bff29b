use Rattle.std.proofs.Common.{◌∙◌, List, Vec, ap, length, map, subst, sym, arith}
use Rattle.std.specs.declared.alloc.Global.{Global}
use Rattle.cbl_base.specs.declared.ids.NodeId.{NodeId}
use Rattle.graph_values.proofs.WeightCells.{length_numbers}
use Rattle.model_nodes.specs.Planned.{ArePlanned, HasLayers}
use Rattle.model_nodes.proofs.Linked.{layers_given, linked_given, nodes_given, places_all, places_given}
use Rattle.model_nodes.proofs.nodes.nodes_of.Goals as goal

pub all_of-requires : goal.all_of-requires
all_of-requires g c κs within =
    let long = ap length c.in_ok-start.ensures ∙ length_numbers c.args.model.now c.args.assignment.now c.requires.1.1.1.1.0 in
    (within, (c.requires.1.0, (c.requires.1.1.0, (omega (arith, long, c.in_ok-start.start.ok.0), (omega arith, (c.requires.1.1.1.1.1.0, c.requires.1.1.1.1.1.1))))))

pub layers_of-requires-clause-few : goal.layers_of-requires-clause-few
layers_of-requires-clause-few g c =
    let few = c.in_ok-made.ensures.made.few in
    omega (arith, few, ap length c.deref.ensures.value)

pub layers_of-requires-clause-layers : goal.layers_of-requires-clause-layers
layers_of-requires-clause-layers g c =
    subst (λ (ls : List (Vec NodeId Global)). HasLayers ls) (sym c.deref.ensures.value) (layers_given g.about c.args.model.now c.requires.1.0 (map g.N.NodeRule.rule c.in_ok-made.made.making.nodes.items) c.in_ok-made.made.making.lists.items c.in_ok-made.made.making.places.items c.in_ok-made.ensures.made c.in_ok-made.ensures.count c.requires.1.1.0 c.requires.1.1.1.0)

pub returns-clause-nodes : goal.returns-clause-nodes
returns-clause-nodes g c = nodes_given g.about c.args.model.now c.requires.1.0 (map g.N.NodeRule.rule c.in_ok-made.made.making.nodes.items) c.in_ok-made.made.making.lists.items c.in_ok-made.made.making.places.items c.in_ok-made.ensures.made c.in_ok-made.ensures.count

pub returns-clause-linked : goal.returns-clause-linked
returns-clause-linked g c =
    linked_given g.about c.args.model.now c.requires.1.0 (map g.N.NodeRule.rule c.in_ok-made.made.making.nodes.items) c.in_ok-made.made.making.lists.items c.in_ok-made.made.making.places.items c.in_ok-made.ensures.made c.in_ok-made.ensures.count c.in_ok-layers.layers (subst (λ (ls : List (Vec NodeId Global)). ArePlanned ls c.in_ok-layers.layers) c.deref.ensures.value c.in_ok-layers.ensures)

pub returns-clause-places : goal.returns-clause-places
returns-clause-places g c = places_given g.about c.args.model.now c.requires.1.0 (map g.N.NodeRule.rule c.in_ok-made.made.making.nodes.items) c.in_ok-made.made.making.lists.items c.in_ok-made.made.making.places.items c.in_ok-made.ensures.made c.in_ok-made.ensures.count

pub returns-clause-placed : goal.returns-clause-placed
returns-clause-placed g c = places_all g.about c.args.model.now c.requires.1.0 (map g.N.NodeRule.rule c.in_ok-made.made.making.nodes.items) c.in_ok-made.made.making.lists.items c.in_ok-made.made.making.places.items c.in_ok-made.ensures.made c.in_ok-made.ensures.count

pub returns-clause-short : goal.returns-clause-short
returns-clause-short g c = c.in_ok-made.ensures.made.short
