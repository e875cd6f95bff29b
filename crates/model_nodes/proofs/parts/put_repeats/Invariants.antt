use Rattle.std.proofs.Common.{◌≡◌, ◌+◌, length, map}
use Rattle.graph_values.specs.WholeGraphs.{first_repeat}
use Rattle.model_nodes.specs.Making.{AreMade}
use Rattle.model_nodes.proofs.parts.put_repeats.Given as goal

abbrev pub invariant-loop-number : goal.invariant-loop-number
invariant-loop-number g l = record {
  made : AreMade g.about (map g.N.NodeRule.rule l.making.nodes.items) l.making.lists.items l.making.places.items;
  count : length l.making.lists.items ≡ first_repeat g.about.model + l.number;
}

abbrev pub ghost-put : goal.ghost-put
ghost-put g a = g.about
