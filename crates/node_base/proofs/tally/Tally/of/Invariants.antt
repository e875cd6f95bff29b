use Rattle.std.proofs.Common.{◌≡◌, take}
use Rattle.node_base.proofs.tally.Tally.of.Given as goal

abbrev pub invariant-loop-number : goal.invariant-loop-number
invariant-loop-number l = l.tally ≡ take l.number-index l.numbers
