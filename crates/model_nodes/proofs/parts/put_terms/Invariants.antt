use Rattle.std.proofs.Common.{◌≡◌, ◌+◌, length, map}
use Rattle.model_nodes.specs.Making.{AreMade}
use Rattle.model_nodes.specs.Waiting.{AreLeft, AreWaiting}
use Rattle.model_nodes.proofs.parts.put_terms.Given as goal

abbrev pub invariant-loop-place : goal.invariant-loop-place
invariant-loop-place g l = record {
  waiting : AreWaiting g.N.NodeRule.rule g.about.users l.waiting.items;
  left : AreLeft g.about.model l.place l.waiting.items;
  made : AreMade g.about (map g.N.NodeRule.rule l.making.nodes.items) l.making.lists.items l.making.places.items;
  count : length l.making.lists.items ≡ l.graph.cells + l.place;
}

abbrev pub ghost-put_term : goal.ghost-put_term
ghost-put_term g a = g.about
