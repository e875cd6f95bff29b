use Rattle.std.proofs.Common.{◌<◌, ◌^◌, ◌∙◌, length, get_or, take, sym, subst, rules, arith, w64}
use Rattle.std.specs.Prelude.{FitsSigned}
use Rattle.std.proofs.lemmas.Int.{to_z-of_z}
use Rattle.node_base.specs.NumberChanges.{after_number_changes}
use Rattle.node_base.proofs.ChangeLemmas.{no_change, number_within, number_first, number_now, number_next, length-after_numbers}
use Rattle.diff_comb.specs.Products.{AreTotals, products_of}
use Rattle.diff_comb.proofs.ProductLemmas.{small_turn, factor_turn, counted_turn, totals_turn}
use Rattle.diff_comb.proofs.weighted_total.WeightedTotalNumberNode.probe.Goals as goal

pub other-other-requires : goal.other-other-requires
other-other-requires c =
    let xs = c.args.self.now.numbers.items in
    let cs = c.args.changes.now in
    let within = number_within xs (get_or cs c.loop-i.i no_change) (number_first xs cs c.loop-i.i no_change c.requires.changes c.loop-i-test.true) in
    let long = c.requires.settled.1 in
    omega (arith, within, long)

pub replaced-products-requires-clause-small : goal.replaced-products-requires-clause-small
replaced-products-requires-clause-small c =
    let small = c.args.self.now.numbers.small in
    let ok = c.args.self.now.numbers.ok in
    let long = c.requires.settled.1 in
    let short : c.args.self.now.members < 2 ^ 62 = omega (arith, small, ok.0, ok.1, long) in
    (small_turn c.loop-i.products c.args.self.now.members _ c.loop-i.invariant.totals short).0

pub replaced-products-requires-clause-few : goal.replaced-products-requires-clause-few
replaced-products-requires-clause-few c =
    let small = c.args.self.now.numbers.small in
    let ok = c.args.self.now.numbers.ok in
    let long = c.requires.settled.1 in
    let short : c.args.self.now.members < 2 ^ 62 = omega (arith, small, ok.0, ok.1, long) in
    (small_turn c.loop-i.products c.args.self.now.members _ c.loop-i.invariant.totals short).1

pub replaced-products-requires-clause-counted : goal.replaced-products-requires-clause-counted
replaced-products-requires-clause-counted c =
    let s = c.args.self.now in
    let xs = s.numbers.items in
    let cs = c.args.changes.now in
    let i = c.loop-i.i in
    let change = get_or cs i no_change in
    let cur = after_number_changes xs (take i cs) in
    let within = c.other-other.ensures.within in
    let long = c.requires.settled.1 in
    let inside : c.other-other.result < length xs = omega (arith, within, long) in
    let fits_was : FitsSigned w64 c.index.result.now = search rules in
    let fits_old : FitsSigned w64 change.old = search rules in
    let fits_factor : FitsSigned w64 c.number_at-factor.result = search rules in
    let at = factor_turn xs (take i cs) c.other-other.result _ c.index.result.now c.number_at-factor.result c.other-other.ensures.other inside c.index.ensures (simp (to_z-of_z w64 c.index.result.now fits_was) at c.number_at-factor.ensures) in
    rw (to_z-of_z w64 change.old fits_old, to_z-of_z w64 c.number_at-factor.result fits_factor)
    (counted_turn c.loop-i.products s.members cur change c.number_at-factor.result c.loop-i.invariant.totals (length-after_numbers xs (take i cs) ∙ long) (number_now xs cs i no_change c.requires.changes c.loop-i-test.true) at)

pub loop-i-preserved : goal.loop-i-preserved
loop-i-preserved c =
    let s = c.args.self.now in
    let xs = s.numbers.items in
    let cs = c.args.changes.now in
    let i = c.loop-i.i in
    let change = get_or cs i no_change in
    let cur = after_number_changes xs (take i cs) in
    let within = c.other-other.ensures.within in
    let long = c.requires.settled.1 in
    let inside : c.other-other.result < length xs = omega (arith, within, long) in
    let fits_was : FitsSigned w64 c.index.result.now = search rules in
    let fits_old : FitsSigned w64 change.old = search rules in
    let fits_new : FitsSigned w64 change.new = search rules in
    let fits_factor : FitsSigned w64 c.number_at-factor.result = search rules in
    let at = factor_turn xs (take i cs) c.other-other.result _ c.index.result.now c.number_at-factor.result c.other-other.ensures.other inside c.index.ensures (simp (to_z-of_z w64 c.index.result.now fits_was) at c.number_at-factor.ensures) in
    record {
      totals = subst (λ ys. AreTotals c.replaced-products.result (products_of s.members ys)) (sym (number_next xs cs i no_change c.requires.changes c.loop-i-test.true))
          (totals_turn c.loop-i.products c.replaced-products.result s.members cur change c.number_at-factor.result c.loop-i.invariant.totals (length-after_numbers xs (take i cs) ∙ long) (number_now xs cs i no_change c.requires.changes c.loop-i-test.true) at (simp (to_z-of_z w64 change.old fits_old, to_z-of_z w64 change.new fits_new, to_z-of_z w64 c.number_at-factor.result fits_factor) at c.replaced-products.ensures.fitting) (simp (to_z-of_z w64 change.old fits_old, to_z-of_z w64 change.new fits_new, to_z-of_z w64 c.number_at-factor.result fits_factor) at c.replaced-products.ensures.unfit));
      earlier = c.in_ok-add.ensures;
    }
