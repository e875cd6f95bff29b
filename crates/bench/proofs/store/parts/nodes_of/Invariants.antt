use Rattle.std.proofs.Common.{◌≡◌, map, take}
use Rattle.bench.specs.Parts.{rule_of_node, rule_of_part}
use Rattle.bench.proofs.store.parts.nodes_of.Given as goal

abbrev pub invariant-loop-part : goal.invariant-loop-part
invariant-loop-part l = map rule_of_node l.nodes.items ≡ map rule_of_part (take l.part-index l.parts)
