use Rattle.std.proofs.Common.{◌<◌, ◌^◌, pos, [], ◌∷◌, ◌++◌, get_or, take, ap, sym, ◌∙◌, subst, rules, arith, w64, to_z, of_z}
use Rattle.std.specs.Prelude.{FitsSigned}
use Rattle.std.proofs.lemmas.Int.{to_z-of_z, to_z_pos}
use Rattle.std.proofs.lemmas.List.{take_all}
use Rattle.cbl_base.specs.Counts.{count_of}
use Rattle.node_base.specs.NumberChanges.{after_number_changes}
use Rattle.node_base.specs.declared.number_change.NumberChange.{NumberChange}
use Rattle.node_base.proofs.ChangeLemmas.{number_now, number_next}
use Rattle.node_count.proofs.CountTurns.{turn_inside, turn_outside, turn_stood, front_few, counted_after}
use Rattle.node_count.proofs.count.CountNumberNode.probe.Goals as goal
use Rattle.node_count.proofs.count.CountNumberNode.probe.Goals.{then-change-cells, else-change-cells}

no_change : NumberChange
no_change = record { place = 0; old = pos 0; new = pos 0 }

pub times_after-times-requires-clause-stood : goal.times_after-times-requires-clause-stood
unfolding no_change
times_after-times-requires-clause-stood c = λ same.
    let xs = c.args.self.now.cells ++ c.args.self.now.counted ∷ [] in
    let v = to_z w64 (of_z w64 c.number_after-counted.result) in
    let now = number_now xs c.args.changes.now c.loop-change.change-index no_change c.requires.changes c.loop-change-test.true in
    let some = turn_stood v c.len-cells.result (after_number_changes xs (take c.loop-change.change-index c.args.changes.now)) (get_or c.args.changes.now c.loop-change.change-index no_change) now c.if-change-cells.true same in
    let is = c.loop-change.invariant in
    omega (arith, some, is)

pub loop-change-preserved : goal.loop-change-preserved
unfolding no_change
loop-change-preserved c =
    let xs = c.args.self.now.cells ++ c.args.self.now.counted ∷ [] in
    let n = c.len-cells.result in
    let cs = c.args.changes.now in
    let i = c.loop-change.change-index in
    let v = to_z w64 (of_z w64 c.number_after-counted.result) in
    let cur = after_number_changes xs (take i cs) in
    let change = get_or cs i no_change in
    let now = number_now xs cs i no_change c.requires.changes c.loop-change-test.true in
    let next = ap (λ t. count_of v (take n t)) (number_next xs cs i no_change c.requires.changes c.loop-change-test.true) in
    let is = c.loop-change.invariant in
    elim c.if-change-cells.branch [
      | then-change-cells w ↦
          let turn = turn_inside v n cur change now w.if-change-cells.true in
          let made = w.times_after-times.ensures in
          let at = w.times-is in
          omega (arith, next, is, turn, made, at)
      | else-change-cells w ↦
          let turn = turn_outside v n cur change w.if-change-cells.false in
          let at = w.times-is in
          omega (arith, next, is, turn, at)
    ]

pub returns : goal.returns
returns c =
    let s = c.args.self.now in
    let xs = s.cells ++ s.counted ∷ [] in
    let cs = c.args.changes.now in
    let v = to_z w64 (of_z w64 c.number_after-counted.result) in
    let fits : FitsSigned w64 s.counted = search rules in
    let fits' : FitsSigned w64 c.number_after-counted.result = search rules in
    let counted = to_z-of_z w64 c.number_after-counted.result fits' ∙ simp (to_z-of_z w64 s.counted fits) at c.number_after-counted.ensures in
    let all = c.loop-change.invariant ∙ ap (λ t. count_of v (take c.len-cells.result (after_number_changes xs t))) (take_all _ _ c.loop-change-test.false) in
    let small : c.loop-change.times < 2 ^ 63 = subst (λ k. k < 2 ^ 63) (sym c.loop-change.invariant) (front_few v c.len-cells.result _ c.len-cells.ensures.small) in
    rw (to_z_pos w64 c.loop-change.times small) (counted_after s.cells s.counted cs c.len-cells.result v c.loop-change.times c.len-cells.ensures.length counted all)
