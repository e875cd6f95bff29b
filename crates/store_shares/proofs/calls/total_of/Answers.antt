use Rattle.std.proofs.Common.{◌≡◌, ◌∙◌, ◌+◌, ◌-◌, ◌<◌, ◌≤◌, ◌*ℤ◌, Err, Ok, arith, length, map, rules, sym, ap}
use Rattle.std.specs.List.{range_with_len}
use Rattle.std.proofs.lemmas.Int.{ints, to_z-of_z}
use Rattle.std.proofs.lemmas.Result.{err_from_is_err_and}
use Rattle.store_shares.specs.Calls.{no_tally, tallied, tally_all, with_product}
use Rattle.store_shares.specs.Parts.{Reading, told, violation_of}
use Rattle.store_shares.specs.Words.{has}
use Rattle.store_shares.proofs.ReadingLaws.{high_wider, low_wider, tally_ends, tally_next, tally_start, tally_stops, told_length, told_there, weight_there}
use Rattle.store_shares.proofs.calls.total_of.Goals as goal
use mir.Syntax.{w64}
use mir.Val.{SFits}

pub loop-at-init : goal.loop-at-init
loop-at-init g c =
    let reading : Reading = record { number = g.H.Held.number_of c.args.held.now; violation = g.H.Held.violation_of c.args.held.now } in
    let next = c.next-at.ensures in
    record {
      low = next.above;
      high = next.within;
      few = omega (arith, ints);
      most = omega (arith, ints);
      rest = λ zeros. tally_start (has c.args.touched.now) c.args.first (c.args.first + length c.args.parts.now) c.next-at.result no_tally (map violation_of (map (told reading (has c.args.slots.now)) c.args.parts.now)) (map (g.H.Held.weight_of c.args.held.now c.args.system) (range_with_len 0 (length c.args.parts.now))) zeros next;
    }

pub loop-at-preserved : goal.loop-at-preserved
loop-at-preserved g c =
    let reading : Reading = record { number = g.H.Held.number_of c.args.held.now; violation = g.H.Held.violation_of c.args.held.now } in
    let before = c.loop-at.invariant in
    let next = c.next-at-in-loop-at.ensures in
    let low = before.low in
    let above = next.above in
    let lt = c.loop-at-test.true in
    let within : c.loop-at.at - c.args.first < length c.args.parts.now = omega (arith, low, lt) in
    let on : c.loop-at.at - c.args.first + 1 ≤ c.next-at-in-loop-at.result - c.args.first = omega (arith, low, above) in
    let one : SFits w64 c.in_ok-violation.violation = search rules in
    let other : SFits w64 c.weight.result = search rules in
    let product : c.with_weighed-tally.result ≡ with_product c.loop-at.tally (c.in_ok-violation.violation *ℤ g.H.Held.weight_of c.args.held.now c.args.system (c.loop-at.at - c.args.first)) =
    c.with_weighed-tally.ensures.is
    ∙ (λ i. with_product c.loop-at.tally (to_z-of_z w64 c.in_ok-violation.violation one i *ℤ (to_z-of_z w64 c.weight.result other ∙ c.weight.ensures) i)) in
    record {
      low = omega (arith, low, above);
      high = next.within;
      few = low_wider (c.loop-at.at - c.args.first + 1) (c.next-at-in-loop-at.result - c.args.first) c.with_weighed-tally.result.sum on c.with_weighed-tally.ensures.low;
      most = high_wider (c.loop-at.at - c.args.first + 1) (c.next-at-in-loop-at.result - c.args.first) c.with_weighed-tally.result.sum on c.with_weighed-tally.ensures.high;
      rest = λ zeros.
          tally_next (has c.args.touched.now) c.args.first (c.args.first + length c.args.parts.now) c.loop-at.at c.next-at-in-loop-at.result c.loop-at.tally c.with_weighed-tally.result c.in_ok-violation.violation
          (g.H.Held.weight_of c.args.held.now c.args.system (c.loop-at.at - c.args.first)) (map violation_of (map (told reading (has c.args.slots.now)) c.args.parts.now)) (map (g.H.Held.weight_of c.args.held.now c.args.system) (range_with_len 0 (length c.args.parts.now)))
          (tally_all no_tally (map violation_of (map (told reading (has c.args.slots.now)) c.args.parts.now)) (map (g.H.Held.weight_of c.args.held.now c.args.system) (range_with_len 0 (length c.args.parts.now)))) low zeros
          (told_there (told reading (has c.args.slots.now)) c.args.parts.now (c.loop-at.at - c.args.first) c.index-parts-member.result (Ok c.in_ok-violation.violation) within c.index-parts-member.is c.in_ok-violation.ensures)
          (weight_there (g.H.Held.weight_of c.args.held.now c.args.system) (length c.args.parts.now) (c.loop-at.at - c.args.first) within) product next (before.rest zeros);
    }

pub returns-in_err-violation : goal.returns-in_err-violation
returns-in_err-violation g c zeros =
    let reading : Reading = record { number = g.H.Held.number_of c.args.held.now; violation = g.H.Held.violation_of c.args.held.now } in
    let before = c.loop-at.invariant in
    let low = before.low in
    let lt = c.loop-at-test.true in
    let within : c.loop-at.at - c.args.first < length c.args.parts.now = omega (arith, low, lt) in
    let failed = err_from_is_err_and c.from_residual.result c.from_residual.ensures.1 in
    failed.1 ∙ ap Err failed.2
    ∙ sym (ap tallied (before.rest zeros
    ∙ tally_stops c.loop-at.tally (c.loop-at.at - c.args.first) c.in_err-violation.field-0.0 (map violation_of (map (told reading (has c.args.slots.now)) c.args.parts.now)) (map (g.H.Held.weight_of c.args.held.now c.args.system) (range_with_len 0 (length c.args.parts.now)))
    (told_there (told reading (has c.args.slots.now)) c.args.parts.now (c.loop-at.at - c.args.first) c.index-parts-member.result (Err c.in_err-violation.field-0.0) within c.index-parts-member.is c.in_err-violation.ensures)))

pub returns : goal.returns
returns g c zeros =
    let reading : Reading = record { number = g.H.Held.number_of c.args.held.now; violation = g.H.Held.violation_of c.args.held.now } in
    let before = c.loop-at.invariant in
    let long = told_length (told reading (has c.args.slots.now)) c.args.parts.now in
    let low = before.low in
    let past = c.loop-at-test.false in
    let le : length (map violation_of (map (told reading (has c.args.slots.now)) c.args.parts.now)) ≤ c.loop-at.at - c.args.first = omega (arith, long, low, past) in
    c.total_told.ensures
    ∙ sym (ap tallied (before.rest zeros ∙ tally_ends c.loop-at.tally (c.loop-at.at - c.args.first) (map violation_of (map (told reading (has c.args.slots.now)) c.args.parts.now)) (map (g.H.Held.weight_of c.args.held.now c.args.system) (range_with_len 0 (length c.args.parts.now))) le))
