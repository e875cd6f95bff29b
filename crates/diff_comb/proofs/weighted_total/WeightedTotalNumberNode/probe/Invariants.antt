use Rattle.std.proofs.Common.{take}
use Rattle.node_base.specs.NumberChanges.{after_number_changes}
use Rattle.diff_comb.specs.NewNumbers.{AreNewNumbers}
use Rattle.diff_comb.specs.Products.{AreTotals, products_of}
use Rattle.diff_comb.proofs.weighted_total.WeightedTotalNumberNode.probe.Given as goal

abbrev pub invariant-loop-i : goal.invariant-loop-i
invariant-loop-i l =
    record {
      totals : AreTotals l.products (products_of l.self.members (after_number_changes l.self.numbers.items (take l.i l.changes)));
      earlier : AreNewNumbers l.earlier l.changes l.i;
    }
