use Rattle.std.proofs.Common.{◌≡◌, ◌<◌, ◌≤◌, ◌^◌, ◌∙◌, ap, sym, subst, arith, rules, pos, take, get_or, length, w64}
use Rattle.std.specs.Prelude.{FitsSigned}
use Rattle.std.proofs.lemmas.Int.{to_z-of_z}
use Rattle.std.proofs.lemmas.List.{take_all}
use Rattle.node_base.specs.declared.number_change.NumberChange.{NumberChange}
use Rattle.node_base.specs.NumberChanges.{after_number_changes, IsNumberAnswer}
use Rattle.node_base.proofs.ChangeLemmas.{number_now, number_next, length-after_numbers}
use Rattle.cbl_violations.specs.Violations.Sequence.{size_of, sequence_violations}
use Rattle.diff_load_seq.specs.Parts.{joined}
use Rattle.diff_load_seq.specs.Levels.{excesses}
use Rattle.diff_load_seq.specs.LevelsOver.{shown}
use Rattle.diff_load_seq.specs.Bins.{AreLow}
use Rattle.diff_load_seq.specs.Windows.{number_moved, first_holding}
use Rattle.diff_load_seq.proofs.ProductLemmas.{change_within}
use Rattle.diff_load_seq.proofs.OverLemmas.{length_shown}
use Rattle.diff_load_seq.proofs.WindowLemmas.{windows_low, place_held, windows_moved, windows_value}
use Rattle.diff_load_seq.proofs.sequence.SequenceNumberNode.probe.Goals as goal
use Rattle.diff_load_seq.proofs.sequence.SequenceNumberNode.probe.Goals.{After-size_of-size}

-- what an index past the end would give
none : NumberChange
none = record { place = 0; old = pos 0; new = pos 0 }

-- the window's size
size_is : (c : After-size_of-size) → c.size_of-size.result ≡ size_of c.args.self.now.window
size_is c = let fits : FitsSigned w64 c.args.self.now.window = search rules in c.size_of-size.ensures ∙ ap size_of (to_z-of_z w64 c.args.self.now.window fits)

pub move_number_over-requires-clause-room : goal.move_number_over-requires-clause-room
move_number_over-requires-clause-room c =
    let xs = c.args.self.now.numbers.items in
    let now = after_number_changes xs (take c.loop-change.change-index c.args.changes.now) in
    let short : length c.args.self.now.numbers.items < 2 ^ 63 = search rules in
    subst AreLow (sym c.loop-change.invariant.shown)
    (windows_low c.args.self.now.values c.args.self.now.most (size_of c.args.self.now.window) now (omega (arith, short, length-after_numbers xs (take c.loop-change.change-index c.args.changes.now))))

pub move_number_over-requires-clause-place : goal.move_number_over-requires-clause-place
unfolding none
move_number_over-requires-clause-place c =
    let xs = c.args.self.now.numbers.items in
    let i = c.loop-change.change-index in
    let now = after_number_changes xs (take i c.args.changes.now) in
    let short : length c.args.self.now.numbers.items < 2 ^ 63 = search rules in
    let within = change_within c.args.self.now.values now (get_or c.args.changes.now i none) (number_now xs c.args.changes.now i none c.requires.changes c.loop-change-test.true) in
    omega (arith, within, short, length-after_numbers xs (take i c.args.changes.now))

pub move_number_over-requires-clause-within : goal.move_number_over-requires-clause-within
unfolding none
move_number_over-requires-clause-within c =
    let values = c.args.self.now.values in
    let most = c.args.self.now.most in
    let xs = c.args.self.now.numbers.items in
    let i = c.loop-change.change-index in
    let now = after_number_changes xs (take i c.args.changes.now) in
    let change = get_or c.args.changes.now i none in
    let size = size_of c.args.self.now.window in
    let within = change_within values now change (number_now xs c.args.changes.now i none c.requires.changes c.loop-change-test.true) in
    let held = place_held values most size now change.place within in
    let shown_is = ap length c.loop-change.invariant.shown in
    subst (λ size. first_holding size change.place ≤ length c.args.self.now.windows.each.items) (sym (size_is (goal.at.move_number_over-requires-clause-within c).After-size_of-size))
    (omega (arith, held, shown_is, length_shown c.args.self.now.windows.each.items c.loop-change.over))

pub loop-change-preserved : goal.loop-change-preserved
unfolding none
loop-change-preserved c =
    let values = c.args.self.now.values in
    let xs = c.args.self.now.numbers.items in
    let i = c.loop-change.change-index in
    let change = get_or c.args.changes.now i none in
    rw (number_next xs c.args.changes.now i none c.requires.changes c.loop-change-test.true) (record {
      shown = c.in_ok-move_number_over.ensures.shown
          ∙ ap (λ size. number_moved values size change (shown c.args.self.now.windows.each.items c.loop-change.over)) (size_is (goal.at.loop-change-preserved c).After-size_of-size)
          ∙ ap (number_moved values (size_of c.args.self.now.window) change) c.loop-change.invariant.shown
          ∙ windows_moved values c.args.self.now.most (size_of c.args.self.now.window) (after_number_changes xs (take i c.args.changes.now)) change (number_now xs c.args.changes.now i none c.requires.changes c.loop-change-test.true);
      kept = c.in_ok-move_number_over.ensures.kept;
    })

pub returns : goal.returns
returns c =
    let xs = c.args.self.now.numbers.items in
    let now = after_number_changes xs (take c.loop-change.change-index c.args.changes.now) in
    let short : length c.args.self.now.numbers.items < 2 ^ 63 = search rules in
    subst (λ value. IsNumberAnswer value c.answer.result)
    (c.total.ensures ∙ ap (λ windows. joined (excesses windows)) c.loop-change.invariant.shown
    ∙ windows_value c.args.self.now.values c.args.self.now.most c.args.self.now.window now (omega (arith, short, length-after_numbers xs (take c.loop-change.change-index c.args.changes.now)))
    ∙ ap (λ cs. sequence_violations c.args.self.now.values c.args.self.now.most c.args.self.now.window (after_number_changes c.args.self.now.numbers.items cs)) (take_all _ _ c.loop-change-test.false))
    c.answer.ensures
