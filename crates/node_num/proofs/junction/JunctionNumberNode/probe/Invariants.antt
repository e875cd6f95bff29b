use Rattle.std.proofs.Common.{◌≡◌, take}
use Rattle.node_base.specs.NumberChanges.{after_number_changes}
use Rattle.node_num.specs.Truths.{truths_in}
use Rattle.node_num.proofs.junction.JunctionNumberNode.probe.Given as goal

abbrev pub invariant-loop-change : goal.invariant-loop-change
invariant-loop-change l = l.truths ≡ truths_in (after_number_changes l.self.numbers.items (take l.change-index l.changes))
