use Rattle.std.proofs.Common.{◌≡◌, ◌<◌, ◌^◌, ◌∙◌, pos, neg_ℤ, ◌≤ℤ◌, ap, to_z, of_z, w64, length, get_or, rules, arith}
use Rattle.std.specs.Prelude.{FitsSigned}
use Rattle.std.specs.Int.{w128}
use Rattle.std.proofs.lemmas.Int.{ints, to_z-of_z}
use Rattle.diff_load_seq.specs.Bins.{bin_raised}
use Rattle.diff_load_seq.proofs.BinLoads.{all_fit_more, bins_raisable, bins_more, bins_emptied}
use Rattle.diff_load_seq.proofs.bins.filled_bins.Goals as goal

pub loop-place-init : goal.loop-place-init
loop-place-init c = record {
  each = c.in_ok-bins.ensures.each ∙ bins_emptied c.args.sizes.now (to_z w64 (of_z w64 c.args.low)) c.args.capacities.now c.args.numbers.now;
  kept = c.in_ok-bins.ensures.kept;
  fit = λ k h. absurd (omega (arith, h));
}

pub raise_bin-requires-clause-room : goal.raise_bin-requires-clause-room
raise_bin-requires-clause-room c =
    let short : length c.args.numbers.now < 2 ^ 63 = search rules in
    let size : FitsSigned w64 (get_or c.args.sizes.now c.loop-place.place (pos 0)) = search rules in
    let down : neg_ℤ (pos (2 ^ 63)) ≤ℤ to_z w128 (of_z w128 c.from.result) = omega (arith, ints, c.from.ensures, size) in
    let up : to_z w128 (of_z w128 c.from.result) ≤ℤ pos (2 ^ 63) = omega (arith, ints, c.from.ensures, size) in
    rw (c.loop-place.invariant.each)
    (bins_raisable c.args.sizes.now (to_z w64 (of_z w64 c.args.low)) c.args.capacities.now c.args.numbers.now c.loop-place.place (to_z w128 (of_z w128 c.from.result)) c.loop-place.invariant.fit
    (omega (arith, short, c.loop-place-test.true)) down up)

pub loop-place-preserved : goal.loop-place-preserved
loop-place-preserved c =
    let low = to_z w64 (of_z w64 c.args.low) in
    let i = c.loop-place.place in
    let size : FitsSigned w64 (get_or c.args.sizes.now c.loop-place.place (pos 0)) = search rules in
    let number : FitsSigned w64 (get_or c.args.numbers.now c.loop-place.place (pos 0)) = search rules in
    let by : to_z w128 (of_z w128 c.from.result) ≡ get_or c.args.sizes.now c.loop-place.place (pos 0) = omega (arith, ints, c.from.ensures, size) in
    record {
      each = c.raise_bin.ensures.each
          ∙ ap (λ bin. bin_raised (to_z w64 (of_z w64 c.args.low)) bin (to_z w128 (of_z w128 c.from.result)) c.loop-place.bins.each.items) (to_z-of_z w64 (get_or c.args.numbers.now i (pos 0)) number)
          ∙ ap (λ by. bin_raised (to_z w64 (of_z w64 c.args.low)) (get_or c.args.numbers.now c.loop-place.place (pos 0)) by c.loop-place.bins.each.items) by
          ∙ ap (bin_raised (to_z w64 (of_z w64 c.args.low)) (get_or c.args.numbers.now c.loop-place.place (pos 0)) (get_or c.args.sizes.now c.loop-place.place (pos 0))) c.loop-place.invariant.each
          ∙ bins_more c.args.sizes.now low c.args.capacities.now c.args.numbers.now i;
      kept = c.raise_bin.ensures.kept;
      fit = all_fit_more c.args.sizes.now i c.loop-place.invariant.fit size;
    }
