use Rattle.std.proofs.Common.{◌≡◌, ◌∙◌, ap, length, get_or, w64, rules, arith}
use Rattle.std.specs.Prelude.{FitsSigned, pos}
use Rattle.std.proofs.lemmas.Int.{to_z-of_z}
use Rattle.std.proofs.lemmas.List.{take_all}
use Rattle.cbl_violations.specs.Violations.Relations.{of_two}
use Rattle.node_base.specs.NumberChanges.{after_number_changes}
use Rattle.node_base.proofs.ChangeLemmas.{no_change, number_within, number_first, length-after_numbers, value_answers}
use Rattle.diff_comb.specs.Related.{violations_of}
use Rattle.diff_comb.proofs.Sides.{two_numbers}
use Rattle.diff_comb.proofs.relation.RelationNumberNode.probe.Goals as goal

pub offset_bounds-sides-change : goal.offset_bounds-sides-change
offset_bounds-sides-change c =
    let within = number_within c.args.self.now.sides (get_or c.args.changes.now c.loop-change.change-index no_change) (number_first c.args.self.now.sides c.args.changes.now c.loop-change.change-index no_change c.requires.changes c.loop-change-test.true) in
    let long : length c.args.self.now.sides ≡ 2 = search rules in
    record { fits = omega (arith, within, long) }

pub bounds-sides-change : goal.bounds-sides-change
bounds-sides-change c =
    let within = number_within c.args.self.now.sides (get_or c.args.changes.now c.loop-change.change-index no_change) (number_first c.args.self.now.sides c.args.changes.now c.loop-change.change-index no_change c.requires.changes c.loop-change-test.true) in
    let long : length c.args.self.now.sides ≡ 2 = search rules in
    omega (arith, within, long)

pub returns : goal.returns
returns c =
    let ys = c.loop-change.sides in
    let two : length c.args.self.now.sides ≡ 2 = search rules in
    let first : FitsSigned w64 (get_or ys 0 (pos 0)) = search rules in
    let second : FitsSigned w64 (get_or ys 1 (pos 0)) = search rules in
    let after : ys ≡ after_number_changes c.args.self.now.sides c.args.changes.now =
    c.loop-change.invariant ∙ ap (after_number_changes c.args.self.now.sides) (take_all c.loop-change.change-index c.args.changes.now c.loop-change-test.false) in
    let long : length ys ≡ 2 = ap length after ∙ length-after_numbers c.args.self.now.sides c.args.changes.now ∙ two in
    value_answers _ _ _ ((simp (to_z-of_z w64 (get_or ys 0 (pos 0)) first, to_z-of_z w64 (get_or ys 1 (pos 0)) second) at c.violations.ensures) ∙ ap (of_two (violations_of c.args.self.now.comparing)) (two_numbers ys (pos 0) (pos 0) long ∙ after)) c.probe_answer.ensures
