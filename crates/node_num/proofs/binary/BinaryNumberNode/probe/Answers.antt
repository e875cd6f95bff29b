use Rattle.std.proofs.Common.{◌≡◌, ◌∙◌, ap, length, get_or, w64, rules, arith}
use Rattle.std.specs.Prelude.{FitsSigned, pos}
use Rattle.std.proofs.lemmas.Int.{to_z-of_z}
use Rattle.std.proofs.lemmas.List.{take_all}
use Rattle.node_base.specs.NumberChanges.{after_number_changes}
use Rattle.cbl_operations.specs.Binary.{rule_of_binary}
use Rattle.node_num.proofs.Operands.{two_numbers}
use Rattle.node_base.proofs.ChangeLemmas.{no_change, number_within, number_first, length-after_numbers, value_answers}
use Rattle.node_num.proofs.binary.BinaryNumberNode.probe.Goals as goal

pub offset_bounds-operands-change : goal.offset_bounds-operands-change
offset_bounds-operands-change c =
    let within = number_within c.args.self.now.operands (get_or c.args.changes.now c.loop-change.change-index no_change) (number_first c.args.self.now.operands c.args.changes.now c.loop-change.change-index no_change c.requires.changes c.loop-change-test.true) in
    let long : length c.args.self.now.operands ≡ 2 = search rules in
    record { fits = omega (arith, within, long) }

pub bounds-operands-change : goal.bounds-operands-change
bounds-operands-change c =
    let within = number_within c.args.self.now.operands (get_or c.args.changes.now c.loop-change.change-index no_change) (number_first c.args.self.now.operands c.args.changes.now c.loop-change.change-index no_change c.requires.changes c.loop-change-test.true) in
    let long : length c.args.self.now.operands ≡ 2 = search rules in
    omega (arith, within, long)

pub returns : goal.returns
returns c =
    let ys = c.loop-change.operands in
    let two : length c.args.self.now.operands ≡ 2 = search rules in
    let first : FitsSigned w64 (get_or ys 0 (pos 0)) = search rules in
    let second : FitsSigned w64 (get_or ys 1 (pos 0)) = search rules in
    let after : ys ≡ after_number_changes c.args.self.now.operands c.args.changes.now =
    c.loop-change.invariant ∙ ap (after_number_changes c.args.self.now.operands) (take_all c.loop-change.change-index c.args.changes.now c.loop-change-test.false) in
    let long : length ys ≡ 2 = ap length after ∙ length-after_numbers c.args.self.now.operands c.args.changes.now ∙ two in
    let rule = rule_of_binary c.args.self.now.operation in
    value_answers _ _ _ ((simp (to_z-of_z w64 (get_or ys 0 (pos 0)) first, to_z-of_z w64 (get_or ys 1 (pos 0)) second) at c.value.ensures) ∙ ap rule.value (two_numbers ys (pos 0) (pos 0) long ∙ after)) c.probe_answer.ensures
