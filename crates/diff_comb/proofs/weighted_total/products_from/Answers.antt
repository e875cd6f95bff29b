use Rattle.std.proofs.Common.{◌<◌, ◌+◌, ◌^◌, pos, get_or, arith, rules, w64}
use Rattle.std.specs.Prelude.{FitsSigned}
use Rattle.std.proofs.lemmas.Int.{to_z-of_z}
use Rattle.cbl_violations.specs.Violations.WeightedTotal.{weighted_member}
use Rattle.diff_comb.proofs.ProductLemmas.{small_below, one_product_more}
use Rattle.diff_comb.proofs.weighted_total.products_from.Goals as goal

pub plus-products-requires-clause-small : goal.plus-products-requires-clause-small
plus-products-requires-clause-small c =
    let short : c.args.members < 2 ^ 32 = search rules in
    let lt = c.loop-k-test.true in
    (small_below c.loop-k.products (weighted_member c.args.members c.args.numbers.now) c.loop-k.k c.loop-k.invariant (omega (arith, short, lt))).0

pub plus-products-requires-clause-few : goal.plus-products-requires-clause-few
plus-products-requires-clause-few c =
    let short : c.args.members < 2 ^ 32 = search rules in
    let lt = c.loop-k-test.true in
    (small_below c.loop-k.products (weighted_member c.args.members c.args.numbers.now) c.loop-k.k c.loop-k.invariant (omega (arith, short, lt))).1

pub loop-k-preserved : goal.loop-k-preserved
loop-k-preserved c =
    let a = get_or c.args.numbers.now c.loop-k.k (pos 0) in
    let b = get_or c.args.numbers.now (c.args.members + c.loop-k.k) (pos 0) in
    let fits_a : FitsSigned w64 a = search rules in
    let fits_b : FitsSigned w64 b = search rules in
    one_product_more c.loop-k.products c.plus-products.result (weighted_member c.args.members c.args.numbers.now) c.loop-k.k c.loop-k.invariant (simp (to_z-of_z w64 a fits_a, to_z-of_z w64 b fits_b) at c.plus-products.ensures.fitting) (simp (to_z-of_z w64 a fits_a, to_z-of_z w64 b fits_b) at c.plus-products.ensures.unfit)
