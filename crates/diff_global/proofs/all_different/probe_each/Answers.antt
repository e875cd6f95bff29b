use Rattle.std.proofs.Common.{ap, ◌∙◌, sym, arith, get_or, take}
use Rattle.std.proofs.lemmas.List.{take_all}
use Rattle.cbl_violations.specs.Violations.AllDifferent.{all_different_violations}
use Rattle.node_base.specs.NumberChanges.{after_number_changes}
use Rattle.node_base.proofs.ChangeLemmas.{no_change, number_now, number_next, length-after_numbers}
use Rattle.node_base.proofs.TallyLemmas.{shown_stands, shown_room}
use Rattle.diff_global.proofs.RepeatLemmas.{old_repeats, repeats_change, violations_fit, violations_as}
use Rattle.diff_global.proofs.all_different.probe_each.Goals as goal

pub set-requires-clause-stands : goal.set-requires-clause-stands
set-requires-clause-stands c =
    let xs = c.args.tally.now in
    let cs = c.args.changes.now in
    let i = c.loop-change.change-index in
    let here = number_now xs cs i no_change c.requires.changes c.loop-change-test.true in
    shown_stands xs c.loop-change.overlay (after_number_changes xs (take i cs)) (get_or cs i no_change) c.loop-change.invariant.shown here

pub set-requires-clause-room : goal.set-requires-clause-room
set-requires-clause-room c =
    let xs = c.args.tally.now in
    let cs = c.args.changes.now in
    let i = c.loop-change.change-index in
    let long = length-after_numbers xs (take i cs) in
    shown_room xs c.loop-change.overlay (after_number_changes xs (take i cs)) (get_or cs i no_change).new c.loop-change.invariant.shown (omega (arith, long, c.requires.few))

pub repeats_after-repeats-requires-clause-old : goal.repeats_after-repeats-requires-clause-old
repeats_after-repeats-requires-clause-old c =
    let xs = c.args.tally.now in
    let cs = c.args.changes.now in
    let i = c.loop-change.change-index in
    let here = number_now xs cs i no_change c.requires.changes c.loop-change-test.true in
    let counted = (c.in_ok-elsewhere.ensures (after_number_changes xs (take i cs)) c.loop-change.invariant.shown here).1 in
    let some = old_repeats (after_number_changes xs (take i cs)) (get_or cs i no_change) c.in_ok-elsewhere.elsewhere here counted in
    omega (arith, c.loop-change.invariant.repeats, some)

pub repeats_after-repeats-requires-clause-room : goal.repeats_after-repeats-requires-clause-room
repeats_after-repeats-requires-clause-room c =
    let long = length-after_numbers c.args.tally.now (take c.loop-change.change-index c.args.changes.now) in
    violations_fit (after_number_changes c.args.tally.now (take c.loop-change.change-index c.args.changes.now)) c.loop-change.repeats c.loop-change.invariant.repeats (omega (arith, long, c.requires.few))

pub loop-change-preserved : goal.loop-change-preserved
loop-change-preserved c =
    let xs = c.args.tally.now in
    let cs = c.args.changes.now in
    let i = c.loop-change.change-index in
    let here = number_now xs cs i no_change c.requires.changes c.loop-change-test.true in
    let both = c.in_ok-elsewhere.ensures (after_number_changes xs (take i cs)) c.loop-change.invariant.shown here in
    let moved = repeats_change (after_number_changes xs (take i cs)) (get_or cs i no_change) c.in_ok-elsewhere.elsewhere here both.1 in
    rw (number_next xs cs i no_change c.requires.changes c.loop-change-test.true)
    (record { shown = both.0; repeats = omega (arith, moved, c.repeats_after-repeats.ensures, c.loop-change.invariant.repeats) })

pub overflow_cast-result : goal.overflow_cast-result
overflow_cast-result c =
    let xs = after_number_changes c.args.tally.now (take c.loop-change.change-index c.args.changes.now) in
    let long = length-after_numbers c.args.tally.now (take c.loop-change.change-index c.args.changes.now) in
    record { sfits = violations_fit xs c.loop-change.repeats c.loop-change.invariant.repeats (omega (arith, long, c.requires.few)) }

pub returns : goal.returns
returns c =
    let xs = after_number_changes c.args.tally.now (take c.loop-change.change-index c.args.changes.now) in
    let long = length-after_numbers c.args.tally.now (take c.loop-change.change-index c.args.changes.now) in
    let all = take_all c.loop-change.change-index c.args.changes.now c.loop-change-test.false in
    ap (λ cs. all_different_violations (after_number_changes c.args.tally.now cs)) (sym all)
    ∙ sym (violations_as xs c.loop-change.repeats c.loop-change.invariant.repeats (omega (arith, long, c.requires.few)))
