use Rattle.cbl_violations.specs.Fitting.{each_below}
use Rattle.cbl_violations.specs.Violations.WeightedTotal.{weighted_member}
use Rattle.diff_comb.specs.Products.{AreTotals}
use Rattle.diff_comb.proofs.weighted_total.products_from.Given as goal

abbrev pub invariant-loop-k : goal.invariant-loop-k
invariant-loop-k l = AreTotals l.products (each_below l.k (weighted_member l.members l.numbers))
