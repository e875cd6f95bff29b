use Rattle.std.proofs.Common.{◌≡◌, ◌∙◌, ◌+◌, ◌+ℤ◌, ◌*◌, ◌^◌, Err, None, Some, pos, true, length, get_or, drop, map, rules, refl, sym, ap, subst}
use Rattle.std.specs.Prelude.{◌≤ℤ◌, neg_ℤ}
use Rattle.std.specs.Option.{option_map}
use Rattle.std.proofs.lemmas.Int.{to_z-of_z}
use Rattle.std.proofs.lemmas.Option.{slice_get_read}
use Rattle.std.proofs.lemmas.Result.{err_from_is_err_and}
use Rattle.store_shares.specs.Parts.{Reading, fewest_told, one_in, sum_told, told, violation_of}
use Rattle.store_shares.specs.Words.{has}
use Rattle.store_shares.proofs.PartLaws.{told_some, told_stops, told_sum}
use Rattle.store_shares.proofs.ReadingLaws.{sum_left, sum_more, sum_stops}
use Rattle.store_shares.proofs.reading.+share.Goals as goal
use mir.Syntax.{w64, w128}
use mir.Val.{SFits, of_z, to_z}

pub returns-in_err-violation-in-Every : goal.returns-in_err-violation-in-Every
returns-in_err-violation-in-Every g t c =
    let reading : Reading = record { number = g.H.Held.number_of c.args.held.now; violation = g.H.Held.violation_of c.args.held.now } in
    let failed = err_from_is_err_and c.from_residual.result c.from_residual.ensures.1 in
    let one_there : one_in (has c.args.words.now) c.in-Every.first c.in-Every.end ≡ true = sym c.has_one.ensures ∙ c.if-not-has_one.false in
    let stops = sum_stops (told reading (has c.args.words.now)) c.deref-part-items.result.now c.loop-part.part-index c.part-item.result (to_z w128 c.loop-part.sum-bits) c.in_err-violation-in-Every.field-0.0
    (sum_told (map violation_of (map (told reading (has c.args.words.now)) c.deref-part-items.result.now))) c.loop-part-test.true c.part-item.is c.loop-part.invariant.rest c.in_err-violation-in-Every.ensures in
    told_stops reading (has c.args.words.now) c.args.part.now c.in-Every.id c.in-Every.first c.in-Every.end c.in-Every.parts c.deref-part-items.result.now c.in_err-violation-in-Every.field-0.0 c.from_residual.result
    c.in-Every.is one_there c.deref-part-items.ensures.value stops (failed.1 ∙ ap Err failed.2)

pub loop-part-preserved : goal.loop-part-preserved
loop-part-preserved g t c =
    let reading : Reading = record { number = g.H.Held.number_of c.args.held.now; violation = g.H.Held.violation_of c.args.held.now } in
    let before = c.loop-part.invariant in
    let wide : SFits w128 c.plus-sum.result = search rules in
    let one : SFits w64 c.in_ok-violation-in-Every.violation = search rules in
    let back : to_z w128 (of_z w128 c.plus-sum.result) ≡ c.plus-sum.result = to_z-of_z w128 c.plus-sum.result wide in
    let is : to_z w128 (of_z w128 c.plus-sum.result) ≡ (to_z w128 c.loop-part.sum-bits +ℤ c.in_ok-violation-in-Every.violation) =
    back ∙ c.plus-sum.ensures.is ∙ ap (λ x. to_z w128 c.loop-part.sum-bits +ℤ x) (to_z-of_z w64 c.in_ok-violation-in-Every.violation one) in
    record {
      count = ap (λ n. n + 1) before.count;
      low = subst (λ z. neg_ℤ (pos (2 ^ 63 * (c.loop-part.count + 1))) ≤ℤ z) (sym back) c.plus-sum.ensures.low;
      high = subst (λ z. z ≤ℤ pos (2 ^ 63 * (c.loop-part.count + 1))) (sym back) c.plus-sum.ensures.high;
      rest = sum_more (told reading (has c.args.words.now)) c.deref-part-items.result.now c.loop-part.part-index c.part-item.result (to_z w128 c.loop-part.sum-bits) c.in_ok-violation-in-Every.violation
          (sum_told (map violation_of (map (told reading (has c.args.words.now)) c.deref-part-items.result.now))) c.loop-part-test.true c.part-item.is before.rest c.in_ok-violation-in-Every.ensures
          ∙ ap (λ z. sum_left (told reading (has c.args.words.now)) z (drop (c.loop-part.part-index + 1) c.deref-part-items.result.now)) (sym is);
    }

pub returns-after-loop-part : goal.returns-after-loop-part
returns-after-loop-part g t c =
    let reading : Reading = record { number = g.H.Held.number_of c.args.held.now; violation = g.H.Held.violation_of c.args.held.now } in
    let one_there : one_in (has c.args.words.now) c.in-Every.first c.in-Every.end ≡ true = sym c.has_one.ensures ∙ c.if-not-has_one.false in
    c.narrowed.ensures
    ∙ told_sum reading (has c.args.words.now) c.args.part.now c.in-Every.id c.in-Every.first c.in-Every.end c.in-Every.parts c.deref-part-items.result.now (to_z w128 c.loop-part.sum-bits) c.loop-part.part-index
    c.in-Every.is one_there c.deref-part-items.ensures.value c.loop-part-test.false c.loop-part.invariant.rest

pub returns-in-Some : goal.returns-in-Some
returns-in-Some g t c =
    let reading : Reading = record { number = g.H.Held.number_of c.args.held.now; violation = g.H.Held.violation_of c.args.held.now } in
    let one_there : one_in (has c.args.words.now) c.in-One.first c.in-One.end ≡ true = sym c.has_one-in-One.ensures ∙ c.if-not-has_one-2.false in
    let is : fewest_told (map (told reading (has c.args.words.now)) c.deref.result.now) ≡ Some (told reading (has c.args.words.now) c.index.result.now) =
    sym (c.in-Some.ensures.fewest (has c.args.words.now))
    ∙ ap (option_map (told reading (has c.args.words.now))) (slice_get_read c.deref.result.now (length c.deref.result.now) c.in-Some.at c.index.result.now refl c.in-Some.ensures.within
    (subst (λ ps. c.index.result.now ≡ get_or ps c.in-Some.at c.index.result.now) (sym c.deref.ensures.value) c.index.ensures)) in
    c.share-in-Some.ensures
    ∙ told_some reading (has c.args.words.now) c.args.part.now c.in-One.id c.in-One.first c.in-One.end c.in-One.parts c.deref.result.now (Some (told reading (has c.args.words.now) c.index.result.now))
    c.in-One.is one_there c.deref.ensures.value is

pub returns-in-None : goal.returns-in-None
returns-in-None g t c =
    let reading : Reading = record { number = g.H.Held.number_of c.args.held.now; violation = g.H.Held.violation_of c.args.held.now } in
    let one_there : one_in (has c.args.words.now) c.in-One.first c.in-One.end ≡ true = sym c.has_one-in-One.ensures ∙ c.if-not-has_one-2.false in
    told_some reading (has c.args.words.now) c.args.part.now c.in-One.id c.in-One.first c.in-One.end c.in-One.parts c.deref.result.now None
    c.in-One.is one_there c.deref.ensures.value (sym (c.in-None.ensures.fewest (has c.args.words.now)))
