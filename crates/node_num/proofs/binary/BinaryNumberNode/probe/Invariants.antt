use Rattle.std.proofs.Common.{◌≡◌, take}
use Rattle.node_base.specs.NumberChanges.{after_number_changes}
use Rattle.node_num.proofs.binary.BinaryNumberNode.probe.Given as goal

abbrev pub invariant-loop-change : goal.invariant-loop-change
invariant-loop-change l = l.operands ≡ after_number_changes l.self.operands (take l.change-index l.changes)
