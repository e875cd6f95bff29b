use Rattle.std.proofs.Common.{◌≡◌, ◌+◌, ◌<◌, ◌^◌, ◌++◌, ◌∷◌, [], ap, ◌∙◌, sym, w64, rules, arith, length, get_or, pos}
use Rattle.std.specs.Prelude.{FitsSigned}
use Rattle.std.proofs.lemmas.Int.{to_z-of_z}
use Rattle.std.proofs.lemmas.List.{length-take, take_more}
use Rattle.cbl_base.specs.Counts.{count_of}
use Rattle.diff_global.specs.CardinalityTotals.{IsShifted}
use Rattle.diff_global.proofs.TotalsShift.{shifted_push, totals_roomy}
use Rattle.diff_global.proofs.cardinality.CardinalityNumberNode.reset.Goals as goal

pub shifted-self-requires-clause-room : goal.shifted-self-requires-clause-room
shifted-self-requires-clause-room c =
    let s = c.loop-x.self in
    let short : length c.args.numbers.now < 2 ^ 61 = search rules in
    let few : length s.tally < 2 ^ 61 = omega (arith, ap length c.loop-x.invariant.tally, length-take c.loop-x.x-index c.args.numbers.now, short) in
    totals_roomy s.demand s.low s.bounds s.tally s.totals c.loop-x.invariant.totals c.loop-x.invariant.bounds few

pub loop-x-preserved : goal.loop-x-preserved
loop-x-preserved c =
    let s = c.loop-x.self in
    let x = get_or c.args.numbers.now c.loop-x.x-index (pos 0) in
    let fits : FitsSigned w64 x = search rules in
    let new : c.push.new.self ≡ s.tally ++ x ∷ [] = simp (to_z-of_z w64 x fits) at c.in_ok-before.ensures.ok in
    let times : c.in_ok-before.before ≡ count_of x s.tally = simp (to_z-of_z w64 x fits) at c.in_ok-before.ensures.before in
    let pushed : IsShifted s.tally c.push.new.self x c.in_ok-before.before (c.in_ok-before.before + 1) = rw new (shifted_push s.tally x c.in_ok-before.before times) in
    record {
      tally = new ∙ ap (λ t. t ++ x ∷ []) c.loop-x.invariant.tally ∙ sym (take_more c.args.numbers.now c.loop-x.x-index (pos 0) c.loop-x-test.true);
      totals = (simp (to_z-of_z w64 x fits) at c.shifted-self.ensures) s.tally c.push.new.self pushed c.loop-x.invariant.totals;
      bounds = c.loop-x.invariant.bounds;
      same_demand = c.loop-x.invariant.same_demand;
      same_low = c.loop-x.invariant.same_low;
      same_bounds = c.loop-x.invariant.same_bounds;
    }
