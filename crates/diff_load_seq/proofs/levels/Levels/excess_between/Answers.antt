use Rattle.std.proofs.Common.{◌≡◌, ℕ, ◌<◌, ◌+◌, ◌-◌, ◌^◌, ◌∙◌, ap, sym, subst, length, arith, rules, Ok, pos}
use Rattle.std.proofs.lemmas.List.{get_or_default}
use Rattle.std.proofs.lemmas.List.FromFn.{map-range_with_len_more, length-map-range_with_len}
use Rattle.diff_load_seq.specs.Parts.{Part, IsSumOf, IsReplaced}
use Rattle.diff_load_seq.specs.Levels.{flat, level_at, excess_of, excesses_between}
use Rattle.diff_load_seq.proofs.PartLemmas.{has_room_more, sum_pushed}
use Rattle.diff_load_seq.proofs.LevelLemmas.{excess_fits}
use Rattle.diff_load_seq.proofs.levels.Levels.excess_between.Goals as goal

pub replaced-sum-requires : goal.replaced-sum-requires
replaced-sum-requires c = has_room_more c.loop-place.sum (excesses_between c.args.self.now.each.items c.args.first (c.loop-place.place - c.args.first)) c.loop-place.invariant.sum

pub loop-place-preserved : goal.loop-place-preserved
loop-place-preserved c =
    let levels = c.args.self.now.each.items in
    let place = c.loop-place.place in
    let n = c.loop-place.place - c.args.first in
    let part : ℕ → Part = λ k. excess_of (level_at levels k) in
    let within : c.loop-place.place < length c.args.self.now.each.items = omega (arith, c.loop-place-test.true, c.requires.within) in
    let short : length c.args.self.now.each.items < 2 ^ 63 = search rules in
    let next : c.loop-place.place + 1 - c.args.first ≡ c.loop-place.place - c.args.first + 1 = omega (arith, c.loop-place.invariant.from) in
    let here : c.args.first + (c.loop-place.place - c.args.first) ≡ c.loop-place.place = omega (arith, c.loop-place.invariant.from) in
    let read = c.excess.ensures ∙ ap excess_of (c.index.ensures ∙ get_or_default levels place c.index.result.now flat within) in
    let long = length-map-range_with_len part c.args.first n in
    record {
      sum = subst (λ m. IsSumOf c.replaced-sum.result (excesses_between levels c.args.first m)) (sym next)
          (subst (IsSumOf c.replaced-sum.result) (sym (map-range_with_len_more part c.args.first n place here))
          (sum_pushed c.loop-place.sum c.replaced-sum.result (excesses_between levels c.args.first n) (part place) c.loop-place.invariant.sum
          (omega (arith, long, short, within)) (excess_fits (level_at levels place)) (subst (λ new. IsReplaced c.loop-place.sum (Ok (pos 0)) new c.replaced-sum.result) read c.replaced-sum.ensures)));
      from = omega (arith, c.loop-place.invariant.from);
      to = omega (arith, c.loop-place-test.true);
    }
