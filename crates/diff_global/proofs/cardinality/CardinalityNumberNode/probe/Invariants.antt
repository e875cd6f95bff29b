use Rattle.std.proofs.Common.{take}
use Rattle.node_base.specs.NumberChanges.{after_number_changes}
use Rattle.node_base.specs.Counting.{Shows}
use Rattle.diff_global.specs.CardinalityTotals.{AreTotals}
use Rattle.diff_global.proofs.cardinality.CardinalityNumberNode.probe.Given as goal

abbrev pub invariant-loop-change : goal.invariant-loop-change
invariant-loop-change l =
    let xs = after_number_changes l.self.tally (take l.change-index l.changes) in
    record { shown : Shows l.self.tally l.overlay xs; totals : AreTotals l.self.demand l.self.low l.self.bounds xs l.totals }
