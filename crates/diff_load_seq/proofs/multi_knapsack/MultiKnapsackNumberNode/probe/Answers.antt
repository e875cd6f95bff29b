use Rattle.std.proofs.Common.{◌<◌, ◌^◌, ◌∙◌, ap, sym, subst, arith, rules, pos, take, get_or, length, to_z, of_z, w64}
use Rattle.std.specs.Prelude.{FitsSigned}
use Rattle.std.proofs.lemmas.Int.{to_z-of_z}
use Rattle.std.proofs.lemmas.List.{take_all}
use Rattle.node_base.specs.declared.number_change.NumberChange.{NumberChange}
use Rattle.node_base.specs.NumberChanges.{after_number_changes, IsNumberAnswer}
use Rattle.node_base.proofs.ChangeLemmas.{number_now, number_next, length-after_numbers}
use Rattle.cbl_violations.specs.Violations.MultiKnapsack.{multi_knapsack_violations}
use Rattle.diff_load_seq.specs.Parts.{joined}
use Rattle.diff_load_seq.specs.Levels.{excesses}
use Rattle.diff_load_seq.specs.LevelsOver.{shown}
use Rattle.diff_load_seq.specs.Bins.{item_moved, AreLow}
use Rattle.diff_load_seq.proofs.ProductLemmas.{change_within}
use Rattle.diff_load_seq.proofs.BinLoads.{bins_low, bins_moved, bins_value}
use Rattle.diff_load_seq.proofs.multi_knapsack.MultiKnapsackNumberNode.probe.Goals as goal

-- what an index past the end would give
none : NumberChange
none = record { place = 0; old = pos 0; new = pos 0 }

pub size_at-size-requires : goal.size_at-size-requires
unfolding none
size_at-size-requires c =
    let xs = c.args.self.now.numbers.items in
    let i = c.loop-change.change-index in
    let now = after_number_changes xs (take i c.args.changes.now) in
    let within = change_within c.args.self.now.sizes now (get_or c.args.changes.now i none) (number_now xs c.args.changes.now i none c.requires.changes c.loop-change-test.true) in
    omega (arith, within, length-after_numbers xs (take i c.args.changes.now), c.requires.settled.0)

pub move_item_over-requires-clause-room : goal.move_item_over-requires-clause-room
move_item_over-requires-clause-room c =
    let xs = c.args.self.now.numbers.items in
    let now = after_number_changes xs (take c.loop-change.change-index c.args.changes.now) in
    let n = length-after_numbers xs (take c.loop-change.change-index c.args.changes.now) in
    let short : length c.args.self.now.numbers.items < 2 ^ 63 = search rules in
    subst AreLow (sym c.loop-change.invariant.shown)
    (bins_low c.args.self.now.sizes c.args.self.now.low c.args.self.now.capacities now (length now) (λ k h. c.requires.settled.3 k (omega (arith, h, n))) (omega (arith, n, short)))

pub loop-change-preserved : goal.loop-change-preserved
unfolding none
loop-change-preserved c =
    let low : FitsSigned w64 c.args.self.now.low = search rules in
    let size : FitsSigned w64 c.size_at-size.result = search rules in
    let xs = c.args.self.now.numbers.items in
    let i = c.loop-change.change-index in
    let change = get_or c.args.changes.now i none in
    let bins = shown c.args.self.now.bins.each.items c.loop-change.over in
    rw (number_next xs c.args.changes.now i none c.requires.changes c.loop-change-test.true) (record {
      shown = c.in_ok-move_item_over.ensures.shown
          ∙ ap (λ low. item_moved low (to_z w64 (of_z w64 c.size_at-size.result)) change bins) (to_z-of_z w64 c.args.self.now.low low)
          ∙ ap (λ size. item_moved c.args.self.now.low size change bins) (to_z-of_z w64 c.size_at-size.result size ∙ c.size_at-size.ensures)
          ∙ ap (item_moved c.args.self.now.low (get_or c.args.self.now.sizes change.place (pos 0)) change) c.loop-change.invariant.shown
          ∙ bins_moved c.args.self.now.sizes c.args.self.now.low c.args.self.now.capacities (after_number_changes xs (take i c.args.changes.now)) change (number_now xs c.args.changes.now i none c.requires.changes c.loop-change-test.true);
      kept = c.in_ok-move_item_over.ensures.kept;
    })

pub returns : goal.returns
returns c =
    let xs = c.args.self.now.numbers.items in
    let now = after_number_changes xs (take c.loop-change.change-index c.args.changes.now) in
    subst (λ value. IsNumberAnswer value c.answer.result)
    (c.total.ensures ∙ ap (λ bins. joined (excesses bins)) c.loop-change.invariant.shown
    ∙ bins_value c.args.self.now.sizes c.args.self.now.low c.args.self.now.capacities now
    ∙ ap (λ cs. multi_knapsack_violations c.args.self.now.sizes c.args.self.now.low c.args.self.now.capacities (after_number_changes c.args.self.now.numbers.items cs)) (take_all _ _ c.loop-change-test.false))
    c.answer.ensures
