use Rattle.std.proofs.Common.{◌≡◌, ℕ, ◌+◌, ◌<◌, ◌^◌, ◌∙◌, ◌++◌, ◌∷◌, [], ℤ, pos, ◌-ℤ◌, List, ap, sym, length, arith, rules, to_z, of_z, w64}
use Rattle.std.specs.Prelude.{slice_range}
use Rattle.std.specs.Int.{w128}
use Rattle.std.proofs.lemmas.Int.{ints}
use Rattle.std.proofs.lemmas.List.FromFn.{map-range_with_len_more}
use Rattle.cbl_violations.specs.Violations.Sequence.{count_in}
use Rattle.diff_load_seq.specs.Windows.{window_of}
use Rattle.diff_load_seq.proofs.WindowLemmas.{before, before_few, window_count}
use Rattle.diff_load_seq.proofs.windows.counted_windows.Goals as goal

-- the height of a window as the code has it
height_is : (values xs : List ℤ) (start size begun ended : ℕ) → length xs < 2 ^ 63 → begun ≡ before values xs (start + size) → ended ≡ before values xs start
    → to_z w128 (of_z w128 (to_z w128 begun -ℤ to_z w128 ended)) ≡ pos (count_in values (slice_range xs start (start + size)))
height_is values xs start size begun ended few is_begun is_ended =
    let w = window_count values xs start size in
    let begun_few : begun < 2 ^ 63 = omega (arith, few, is_begun, before_few values xs (start + size)) in
    let ended_few : ended < 2 ^ 63 = omega (arith, few, is_ended, before_few values xs start) in
    omega (arith, ints, w, is_begun, is_ended, begun_few, ended_few)

pub loop-start-preserved : goal.loop-start-preserved
loop-start-preserved c =
    let values = c.args.values.now in
    let xs = c.args.numbers.now in
    let start = c.loop-start.start in
    let most = to_z w64 (of_z w64 c.args.most) in
    let short : length c.args.numbers.now < 2 ^ 63 = search rules in
    let height = height_is values xs start c.args.size c.loop-start.begun c.loop-start.ended short c.loop-start.invariant.begun c.loop-start.invariant.ended in
    let next : c.loop-start.start + 1 + c.args.size ≡ c.loop-start.start + c.args.size + 1 = omega arith in
    record {
      each = c.in_ok-push.ensures.each
          ∙ ap (λ (z : ℤ). c.loop-start.windows.each.items ++ record { height = z; limit = to_z w64 (of_z w64 c.args.most) } ∷ []) height
          ∙ ap (λ windows. windows ++ window_of values most c.args.size xs start ∷ []) c.loop-start.invariant.each
          ∙ sym (map-range_with_len_more (window_of values most c.args.size xs) 0 start start (omega arith));
      kept = c.in_ok-push.ensures.kept;
      begun = omega (arith, c.loop-start.invariant.begun, c.more_at-begun.ensures.more, ap (before values xs) next);
      ended = omega (arith, c.loop-start.invariant.ended, c.more_at-ended.ensures.more);
    }
