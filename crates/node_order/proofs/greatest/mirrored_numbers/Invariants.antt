use Rattle.std.proofs.Common.{◌≡◌, map, take}
use Rattle.node_order.specs.Mirror.{mirrored}
use Rattle.node_order.proofs.greatest.mirrored_numbers.Given as goal

abbrev pub invariant-loop-number : goal.invariant-loop-number
invariant-loop-number l = l.made.items ≡ map mirrored (take l.number-index l.numbers)
