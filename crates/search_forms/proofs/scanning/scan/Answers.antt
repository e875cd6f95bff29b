-- Each candidate is scored and added; behind the last one its ties are those of the meaning.
use Rattle.std.proofs.Common.{◌≡◌, ◌<◌, ◌≤◌, arith, length, subst, sym}
use Rattle.comet_meaning.proofs.GoingStatements.{goes_level}
use Rattle.search_forms.specs.Asking.{want_of}
use Rattle.search_forms.specs.Tables.{candidates_seen}
use Rattle.search_forms.proofs.ChoiceLaws.{part_exit, part_unkept}
use Rattle.search_forms.proofs.ScanLaws.{scan_count, scan_ends, scan_first, scan_going, scan_goes_on, scan_onward, scan_starts, scan_stops, stands}
use Rattle.search_forms.proofs.scanning.scan.Goals as goal

pub loop-number-init : goal.loop-number-init
loop-number-init g c = scan_starts _ _ _ _ _ _ _ _ _ _ (c.new-part.ensures (want_of c.args.asked.extreme))

pub returns-in_err-scored : goal.returns-in_err-scored
returns-in_err-scored g c =
    let h : c.loop-number.number < length (candidates_seen c.args.candidates.now) = subst (λ n. c.loop-number.number < n) c.len-number-end.ensures c.loop-number-test.true in
    record { did = part_exit _ _ _ _ _ c.from_residual.ensures.1 (scan_stops c.loop-number.invariant _ h (stands _ _ _ h c.get-values.ensures) (goes_level _ _) _ _ (c.in_err-scored.ensures.did _ _)) }

pub add-requires : goal.add-requires
add-requires g c =
    let count = scan_count c.loop-number.invariant in
    let first = scan_first c.loop-number.invariant in
    record { going = scan_going c.loop-number.invariant; numbers = omega (arith, count, first, c.loop-number-test.true); costs = omega (arith, c.loop-number.invariant.spent, c.in_ok-scored.ensures.cost) }

pub returns-in_err-add : goal.returns-in_err-add
returns-in_err-add g c =
    let h : c.loop-number.number < length (candidates_seen c.args.candidates.now) = subst (λ n. c.loop-number.number < n) c.len-number-end.ensures c.loop-number-test.true in
    record { did = part_unkept _ _ _ _ c.from_residual-in_err-add.ensures.1 (scan_onward c.loop-number.invariant _ h (stands _ _ _ h c.get-values.ensures) (goes_level _ _) _ _ (c.in_ok-scored.ensures.did _ _)) }

pub loop-number-preserved : goal.loop-number-preserved
loop-number-preserved g c =
    let h : c.loop-number.number < length (candidates_seen c.args.candidates.now) = subst (λ n. c.loop-number.number < n) c.len-number-end.ensures c.loop-number-test.true in
    scan_goes_on c.loop-number.invariant _ h (stands _ _ _ h c.get-values.ensures) _ _ _ _ (c.in_ok-scored.ensures.did _ _) c.in_ok-scored.ensures.cost c.in_ok-scored.ensures.goes_on (rw c.wanted-want.ensures at c.in_ok-add.ensures.added)

pub returns : goal.returns
returns g c = record { did = scan_ends c.loop-number.invariant (subst (λ n. n ≤ c.loop-number.number) c.len-number-end.ensures c.loop-number-test.false) }
