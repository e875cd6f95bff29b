use Rattle.std.proofs.Common.{ap, ◌∙◌, sym, arith, get_or, take}
use Rattle.std.proofs.lemmas.List.{take_all}
use Rattle.node_base.specs.NumberChanges.{after_number_changes}
use Rattle.node_base.proofs.ChangeLemmas.{no_change, number_now, number_next, length-after_numbers, value_answers}
use Rattle.node_base.proofs.TallyLemmas.{shown_stands, shown_room}
use Rattle.diff_global.specs.NumberRules.{cardinality_violations}
use Rattle.diff_global.proofs.CardinalityLaws.{violations_are}
use Rattle.diff_global.proofs.cardinality.CardinalityNumberNode.probe.Goals as goal

pub set-requires-clause-stands : goal.set-requires-clause-stands
set-requires-clause-stands c =
    let xs = c.args.self.now.tally in
    let cs = c.args.changes.now in
    let i = c.loop-change.change-index in
    let here = number_now xs cs i no_change c.requires.changes c.loop-change-test.true in
    shown_stands xs c.loop-change.overlay (after_number_changes xs (take i cs)) (get_or cs i no_change) c.loop-change.invariant.shown here

pub set-requires-clause-room : goal.set-requires-clause-room
set-requires-clause-room c =
    let xs = c.args.self.now.tally in
    let cs = c.args.changes.now in
    let i = c.loop-change.change-index in
    let long = length-after_numbers xs (take i cs) in
    shown_room xs c.loop-change.overlay (after_number_changes xs (take i cs)) (get_or cs i no_change).new c.loop-change.invariant.shown (omega (arith, long, c.requires.settled.2))

pub changed-totals-requires-clause-list : goal.changed-totals-requires-clause-list
changed-totals-requires-clause-list c =
    let xs = c.args.self.now.tally in
    let cs = c.args.changes.now in
    let i = c.loop-change.change-index in
    let here = number_now xs cs i no_change c.requires.changes c.loop-change-test.true in
    let both = c.in_ok-elsewhere.ensures (after_number_changes xs (take i cs)) c.loop-change.invariant.shown here in
    (after_number_changes xs (take i cs), here, both.1, c.loop-change.invariant.totals, omega (arith, length-after_numbers xs (take i cs), c.requires.settled.2))

pub loop-change-preserved : goal.loop-change-preserved
loop-change-preserved c =
    let xs = c.args.self.now.tally in
    let cs = c.args.changes.now in
    let i = c.loop-change.change-index in
    let here = number_now xs cs i no_change c.requires.changes c.loop-change-test.true in
    let both = c.in_ok-elsewhere.ensures (after_number_changes xs (take i cs)) c.loop-change.invariant.shown here in
    rw (number_next xs cs i no_change c.requires.changes c.loop-change-test.true)
    (record { shown = both.0; totals = c.changed-totals.ensures (after_number_changes xs (take i cs)) here both.1 c.loop-change.invariant.totals })

pub returns : goal.returns
returns c =
    let s = c.args.self.now in
    let all = take_all c.loop-change.change-index c.args.changes.now c.loop-change-test.false in
    value_answers _ _ _
    (c.violations.ensures ∙ sym (violations_are s.demand s.low s.bounds (after_number_changes s.tally (take c.loop-change.change-index c.args.changes.now)) c.loop-change.totals c.loop-change.invariant.totals)
    ∙ ap (λ cs. cardinality_violations s.demand s.low s.bounds (after_number_changes s.tally cs)) all)
    c.probe_answer.ensures
