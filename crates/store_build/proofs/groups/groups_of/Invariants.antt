use Rattle.std.proofs.Common.{◌≡◌, ◌+◌, map, length}
use Rattle.store_build.specs.Groups.{IsGrouped}
use Rattle.store_build.proofs.groups.groups_of.Given as goal

abbrev pub invariant-loop-id : goal.invariant-loop-id
invariant-loop-id g l = IsGrouped g.N.NodeRule.rule (map g.N.NodeRule.rule l.nodes.items) l.first l.layers l.id l.groups.items

abbrev pub invariant-loop-node : goal.invariant-loop-node
invariant-loop-node g l = (l.id ≡ l.first + length l.yielded) × IsGrouped g.N.NodeRule.rule (map g.N.NodeRule.rule l.fn.nodes.items) l.first l.layers l.id l.groups.items
