use Rattle.std.proofs.Common.{◌≡◌, take}
use Rattle.node_base.specs.NumberChanges.{after_number_changes}
use Rattle.node_order.specs.OrderedCounts.{AreCountsOf}
use Rattle.node_order.specs.PlaceIndex.{IsIndexOf}
use Rattle.node_order.proofs.arg_extreme.ArgExtremeNodeRule.apply.Given as goal

abbrev pub invariant-loop-change : goal.invariant-loop-change
invariant-loop-change l =
    let least = l.self.least in
    record {
      settled : AreCountsOf least.lowest.counts least.lowest.numbers.items;
      index : IsIndexOf least.index least.lowest.numbers.items;
      numbers : least.lowest.numbers.items ≡ after_number_changes l.fn.self.least.lowest.numbers.items (take l.change-index l.change-items);
      keys : least.keys ≡ l.fn.self.least.keys;
      extreme : l.self.extreme ≡ l.fn.self.extreme;
    }
