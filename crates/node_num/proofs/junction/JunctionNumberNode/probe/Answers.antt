use Rattle.std.proofs.Common.{◌∙◌, ap, sym, get_or, take, w64, rules, arith}
use Rattle.std.specs.Prelude.{FitsSigned}
use Rattle.std.proofs.lemmas.Int.{to_z-of_z}
use Rattle.std.proofs.lemmas.List.{take_all}
use Rattle.node_base.specs.NumberChanges.{after_number_changes}
use Rattle.node_base.proofs.ChangeLemmas.{no_change, number_now, number_next, length-after_numbers}
use Rattle.node_num.specs.Truths.{truths_in}
use Rattle.node_num.proofs.TruthCounts.{old_counted, truths_after_change, truths-le-length}
use Rattle.node_num.proofs.junction.JunctionNumberNode.probe.Goals as goal

pub truths_after-truths-requires-clause-old : goal.truths_after-truths-requires-clause-old
truths_after-truths-requires-clause-old c =
    let xs = c.args.self.now.numbers.items in
    let cs = c.args.changes.now in
    let i = c.loop-change.change-index in
    let here = number_now xs cs i no_change c.requires.changes c.loop-change-test.true in
    omega (arith, c.loop-change.invariant, old_counted (after_number_changes xs (take i cs)) (get_or cs i no_change) here)

pub truths_after-truths-requires-clause-room : goal.truths_after-truths-requires-clause-room
truths_after-truths-requires-clause-room c =
    let xs = c.args.self.now.numbers.items in
    let now = after_number_changes xs (take c.loop-change.change-index c.args.changes.now) in
    omega (arith, c.loop-change.invariant, truths-le-length now, length-after_numbers xs (take c.loop-change.change-index c.args.changes.now), c.args.self.now.numbers.ok.0, c.args.self.now.numbers.small)

pub loop-change-preserved : goal.loop-change-preserved
loop-change-preserved c =
    let xs = c.args.self.now.numbers.items in
    let cs = c.args.changes.now in
    let i = c.loop-change.change-index in
    let here = number_now xs cs i no_change c.requires.changes c.loop-change-test.true in
    let next = ap truths_in (number_next xs cs i no_change c.requires.changes c.loop-change-test.true) in
    omega (arith, c.truths_after-truths.ensures, c.loop-change.invariant, truths_after_change (after_number_changes xs (take i cs)) (get_or cs i no_change) here, next)

pub returns : goal.returns
returns c =
    let fits : FitsSigned w64 c.value_with.result = search rules in
    let xs = c.args.self.now.numbers.items in
    let all = take_all c.loop-change.change-index c.args.changes.now c.loop-change-test.false in
    rw (to_z-of_z w64 c.value_with.result fits)
    (sym (c.value_with.ensures (after_number_changes xs c.args.changes.now) (length-after_numbers xs c.args.changes.now) (c.loop-change.invariant ∙ ap (λ cs. truths_in (after_number_changes xs cs)) all)))
