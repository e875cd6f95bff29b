use Rattle.std.proofs.Common.{◌≡◌, ◌+◌, length, map}
use Rattle.graph_values.specs.Members.{members_before}
use Rattle.model_nodes.specs.Making.{AreMade}
use Rattle.model_nodes.specs.Totals.{first_total}
use Rattle.model_nodes.proofs.parts.put_totals.Given as goal

abbrev pub invariant-loop-number : goal.invariant-loop-number
invariant-loop-number g l = record {
  made : AreMade g.about (map g.N.NodeRule.rule l.making.nodes.items) l.making.lists.items l.making.places.items;
  count : length l.making.lists.items ≡ first_total l.model l.fn.side + l.number;
  weights : l.next ≡ l.first + length (members_before l.model l.fn.side l.number);
}

abbrev pub ghost-put : goal.ghost-put
ghost-put g a = g.about
