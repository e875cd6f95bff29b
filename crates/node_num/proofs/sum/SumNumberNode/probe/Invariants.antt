use Rattle.std.proofs.Common.{◌≡◌, take}
use Rattle.cbl_base.specs.Totals.{total}
use Rattle.node_base.specs.NumberChanges.{after_number_changes}
use Rattle.node_num.specs.Few.{AreFew}
use Rattle.node_num.proofs.sum.SumNumberNode.probe.Given as goal

abbrev pub invariant-loop-change : goal.invariant-loop-change
invariant-loop-change l =
    let xs = after_number_changes l.self.numbers.items (take l.change-index l.changes) in
    record { total : l.total.value ≡ total xs; few : AreFew xs }
