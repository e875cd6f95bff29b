use Rattle.std.proofs.Common.{arith, rules, w64}
use Rattle.std.specs.Prelude.{FitsSigned}
use Rattle.std.proofs.lemmas.Int.{ints, to_z-of_z}
use Rattle.diff_comb.proofs.weighted_total.Products.plus.Goals as goal

pub returns-clause-fitting : goal.returns-clause-fitting
returns-clause-fitting c =
    let come = simp (to_z-of_z w64 c.args.member c.ranges.member, to_z-of_z w64 c.args.weight c.ranges.weight) at c.share_of-come.ensures.part in
    let fits : FitsSigned w64 c.share_of-come.result.part = search rules in
    let low = c.requires.small.low in
    let high = c.requires.small.high in
    omega (arith, ints, come, fits, low, high, c.from.ensures)
