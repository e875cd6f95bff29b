use Rattle.std.proofs.Common.{◌≡◌, ◌+◌, length, map}
use Rattle.graph_values.specs.Graphs.{count_of}
use Rattle.model_nodes.specs.Making.{AreMade}
use Rattle.model_nodes.proofs.parts.put_weights.Given as goal

abbrev pub invariant-loop-weight : goal.invariant-loop-weight
invariant-loop-weight g l = record {
  made : AreMade g.about (map g.N.NodeRule.rule l.making.nodes.items) l.making.lists.items l.making.places.items;
  count : length l.making.lists.items ≡ count_of g.about.model + l.weight-index;
}

abbrev pub ghost-put : goal.ghost-put
ghost-put g a = g.about
