use Rattle.std.proofs.Common.{◌≡◌, take}
use Rattle.node_base.specs.NumberChanges.{after_number_changes}
use Rattle.diff_comb.proofs.of_one.OfOneNumberNode.probe.Given as goal

abbrev pub invariant-loop-change : goal.invariant-loop-change
invariant-loop-change l = l.members ≡ after_number_changes l.self.members (take l.change-index l.changes)
