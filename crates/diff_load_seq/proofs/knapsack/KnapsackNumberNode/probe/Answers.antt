use Rattle.std.proofs.Common.{◌∙◌, ap, subst, arith, pos, take, get_or}
use Rattle.std.proofs.lemmas.List.{take_all}
use Rattle.node_base.specs.declared.number_change.NumberChange.{NumberChange}
use Rattle.node_base.specs.NumberChanges.{after_number_changes, IsNumberAnswer}
use Rattle.node_base.proofs.ChangeLemmas.{number_now, number_next, length-after_numbers}
use Rattle.cbl_violations.specs.Violations.Knapsack.{knapsack_violations}
use Rattle.diff_load_seq.specs.Products.{above_capacity, products}
use Rattle.diff_load_seq.proofs.PartLemmas.{joined_kept}
use Rattle.diff_load_seq.proofs.ProductLemmas.{change_within, load_room, load_moved, above_is}
use Rattle.diff_load_seq.proofs.knapsack.KnapsackNumberNode.probe.Goals as goal

-- what an index past the end would give
none : NumberChange
none = record { place = 0; old = pos 0; new = pos 0 }

pub moved-load-requires-clause-within : goal.moved-load-requires-clause-within
unfolding none
moved-load-requires-clause-within c =
    let xs = c.args.self.now.numbers.items in
    let i = c.loop-change.change-index in
    let now = after_number_changes xs (take i c.args.changes.now) in
    let change = get_or c.args.changes.now i none in
    let within = change_within c.args.self.now.weights now change (number_now xs c.args.changes.now i none c.requires.changes c.loop-change-test.true) in
    omega (arith, within, length-after_numbers xs (take i c.args.changes.now), c.requires.settled.0)

pub moved-load-requires-clause-room : goal.moved-load-requires-clause-room
unfolding none
moved-load-requires-clause-room c =
    let xs = c.args.self.now.numbers.items in
    let i = c.loop-change.change-index in
    load_room c.args.self.now.weights (after_number_changes xs (take i c.args.changes.now)) (get_or c.args.changes.now i none) (number_now xs c.args.changes.now i none c.requires.changes c.loop-change-test.true)
    c.loop-change.load c.loop-change.invariant

pub loop-change-preserved : goal.loop-change-preserved
unfolding none
loop-change-preserved c =
    let xs = c.args.self.now.numbers.items in
    let i = c.loop-change.change-index in
    rw (number_next xs c.args.changes.now i none c.requires.changes c.loop-change-test.true)
    (load_moved c.args.self.now.weights (after_number_changes xs (take i c.args.changes.now)) (get_or c.args.changes.now i none) (number_now xs c.args.changes.now i none c.requires.changes c.loop-change-test.true)
    c.loop-change.load c.moved-load.result c.loop-change.invariant c.moved-load.ensures)

pub returns : goal.returns
returns c =
    let weights = c.args.self.now.weights in
    let xs = c.args.self.now.numbers.items in
    let now = after_number_changes xs (take c.loop-change.change-index c.args.changes.now) in
    subst (λ value. IsNumberAnswer value c.answer.result)
    (c.above.ensures
    ∙ ap (λ load. above_capacity load c.args.self.now.capacity) (joined_kept c.loop-change.load (products weights now) c.loop-change.invariant)
    ∙ above_is weights c.args.self.now.capacity now
    ∙ ap (λ cs. knapsack_violations c.args.self.now.weights c.args.self.now.capacity (after_number_changes c.args.self.now.numbers.items cs)) (take_all _ _ c.loop-change-test.false))
    c.answer.ensures
