use Rattle.std.proofs.Common.{arith, rules, w64}
use Rattle.std.specs.Prelude.{FitsSigned}
use Rattle.std.proofs.lemmas.Int.{ints, to_z-of_z}
use Rattle.diff_comb.proofs.weighted_total.Products.replaced.Goals as goal

pub overflow_add-result : goal.overflow_add-result
overflow_add-result c =
    let fits_gone : FitsSigned w64 c.share_of-gone.result.part = search rules in
    let fits_come : FitsSigned w64 c.share_of-come.result.part = search rules in
    let low = c.requires.small.low in
    let high = c.requires.small.high in
    omega (arith, ints, fits_gone, fits_come, low, high, c.from.ensures, c.from-2.ensures)

pub returns-clause-fitting : goal.returns-clause-fitting
returns-clause-fitting c =
    let gone = simp (to_z-of_z w64 c.args.old c.ranges.old, to_z-of_z w64 c.args.factor c.ranges.factor) at c.share_of-gone.ensures.part in
    let come = simp (to_z-of_z w64 c.args.new c.ranges.new, to_z-of_z w64 c.args.factor c.ranges.factor) at c.share_of-come.ensures.part in
    let fits_gone : FitsSigned w64 c.share_of-gone.result.part = search rules in
    let fits_come : FitsSigned w64 c.share_of-come.result.part = search rules in
    let low = c.requires.small.low in
    let high = c.requires.small.high in
    omega (arith, ints, gone, come, fits_gone, fits_come, low, high, c.from.ensures, c.from-2.ensures)
