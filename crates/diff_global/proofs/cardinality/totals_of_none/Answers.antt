use Rattle.std.proofs.Common.{◌<◌, ◌^◌, ◌∙◌, ℤ, List, ap, length, get_or, pos, subst, rules, arith, w64}
use Rattle.std.specs.Prelude.{All, FitsSigned}
use Rattle.std.proofs.lemmas.Int.{ints, to_z-of_z}
use Rattle.std.proofs.lemmas.List.{take_all}
use Rattle.std.proofs.lemmas.List.Elements.{All-more}
use Rattle.cbl_base.specs.Totals.{total_by}
use Rattle.diff_global.specs.Differences.{differs_by, part, misfit}
use Rattle.diff_global.proofs.TotalsShift.{part_is, misfit-le, none_totals, total_by-more}
use Rattle.diff_global.proofs.cardinality.totals_of_none.Goals as goal

pub with-totals-requires-clause-low : goal.with-totals-requires-clause-low
with-totals-requires-clause-low c = omega (arith, ints, c.loop-bound.invariant.low)

pub with-totals-requires-clause-high : goal.with-totals-requires-clause-high
with-totals-requires-clause-high c =
    let short : length c.args.bounds.now < 2 ^ 61 = search rules in
    omega (arith, ints, c.loop-bound.invariant.high, short, c.loop-bound-test.true)

pub with-totals-requires-clause-misfits : goal.with-totals-requires-clause-misfits
with-totals-requires-clause-misfits c =
    let short : length c.args.bounds.now < 2 ^ 61 = search rules in
    omega (arith, c.loop-bound.invariant.few, short, c.loop-bound-test.true)

pub loop-bound-preserved : goal.loop-bound-preserved
loop-bound-preserved c =
    let demand = c.args.demand in
    let x = get_or c.args.bounds.now c.loop-bound.bound-index (pos 0) in
    let fits : FitsSigned w64 x = search rules in
    let is = part_is demand 0 x (omega arith) fits in
    let sum = simp (to_z-of_z w64 x fits) at c.with-totals.ensures.sum in
    let misfits = simp (to_z-of_z w64 x fits) at c.with-totals.ensures.misfits in
    let more = total_by-more (λ v. part demand (differs_by demand 0 v)) c.args.bounds.now c.loop-bound.bound-index c.loop-bound-test.true in
    let more_misfits = total_by-more (λ v. pos (misfit (differs_by demand 0 v))) c.args.bounds.now c.loop-bound.bound-index c.loop-bound-test.true in
    record {
      sum = omega (arith, ints, sum, more, c.loop-bound.invariant.sum);
      misfits = omega (arith, ints, misfits, more_misfits, c.loop-bound.invariant.misfits);
      low = omega (arith, ints, sum, is.low, c.loop-bound.invariant.low);
      high = omega (arith, ints, sum, is.high, c.loop-bound.invariant.high);
      few = omega (arith, misfits, misfit-le (differs_by demand 0 x), c.loop-bound.invariant.few);
      each = All-more (λ (z : ℤ). FitsSigned w64 z) c.args.bounds.now c.loop-bound.bound-index (pos 0) c.loop-bound-test.true c.loop-bound.invariant.each fits;
    }

pub returns-clause-totals : goal.returns-clause-totals
returns-clause-totals c low =
    let demand = c.args.demand in
    let all = take_all c.loop-bound.bound-index c.args.bounds.now c.loop-bound-test.false in
    none_totals demand low c.args.bounds.now c.loop-bound.totals (c.loop-bound.invariant.sum ∙ ap (total_by (λ v. part demand (differs_by demand 0 v))) all)
    (c.loop-bound.invariant.misfits ∙ ap (total_by (λ v. pos (misfit (differs_by demand 0 v)))) all)

pub returns-clause-bounds : goal.returns-clause-bounds
returns-clause-bounds c =
    let short : length c.args.bounds.now < 2 ^ 61 = search rules in
    record { each = subst (λ (t : List ℤ). All (λ (z : ℤ). FitsSigned w64 z) t) (take_all c.loop-bound.bound-index c.args.bounds.now c.loop-bound-test.false) c.loop-bound.invariant.each; few = short }
