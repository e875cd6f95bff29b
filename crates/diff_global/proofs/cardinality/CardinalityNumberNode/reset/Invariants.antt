use Rattle.std.proofs.Common.{◌≡◌, take}
use Rattle.diff_global.specs.CardinalityTotals.{AreTotals, AreBounds}
use Rattle.diff_global.proofs.cardinality.CardinalityNumberNode.reset.Given as goal

abbrev pub invariant-loop-x : goal.invariant-loop-x
invariant-loop-x l =
    record {
      tally : l.self.tally ≡ take l.x-index l.numbers;
      totals : AreTotals l.self.demand l.self.low l.self.bounds l.self.tally l.self.totals;
      bounds : AreBounds l.self.bounds;
      same_demand : l.self.demand ≡ l.fn.self.demand;
      same_low : l.self.low ≡ l.fn.self.low;
      same_bounds : l.self.bounds ≡ l.fn.self.bounds;
    }
