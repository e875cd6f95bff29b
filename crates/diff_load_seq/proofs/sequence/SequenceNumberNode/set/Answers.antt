use Rattle.std.proofs.Common.{◌≡◌, ◌<◌, ◌≤◌, ◌^◌, ◌∙◌, ap, sym, subst, length, rules, arith, w64}
use Rattle.std.specs.Prelude.{FitsSigned}
use Rattle.std.proofs.lemmas.Int.{to_z-of_z}
use Rattle.cbl_violations.specs.Violations.Sequence.{size_of}
use Rattle.diff_load_seq.specs.Bins.{AreLow}
use Rattle.diff_load_seq.specs.Windows.{windows_of, first_holding, number_moved}
use Rattle.diff_load_seq.proofs.ProductLemmas.{change_within}
use Rattle.diff_load_seq.proofs.WindowLemmas.{windows_low, place_held, windows_moved}
use Rattle.diff_load_seq.proofs.sequence.SequenceNumberNode.set.Goals as goal
use Rattle.diff_load_seq.proofs.sequence.SequenceNumberNode.set.Goals.{After-size_of}

-- the window's size
size_is : (c : After-size_of) → c.size_of.result ≡ size_of c.args.self.now.window
size_is c = let fits : FitsSigned w64 c.args.self.now.window = search rules in c.size_of.ensures ∙ ap size_of (to_z-of_z w64 c.args.self.now.window fits)

pub move_number-requires-clause-room : goal.move_number-requires-clause-room
move_number-requires-clause-room c =
    let short : length c.args.self.now.numbers.items < 2 ^ 63 = search rules in
    subst AreLow (sym c.requires.settled.0) (windows_low c.args.self.now.values c.args.self.now.most (size_of c.args.self.now.window) c.args.self.now.numbers.items short)

pub move_number-requires-clause-place : goal.move_number-requires-clause-place
move_number-requires-clause-place c =
    let short : length c.args.self.now.numbers.items < 2 ^ 63 = search rules in
    omega (arith, short, change_within c.args.self.now.values c.args.self.now.numbers.items c.args.change c.requires.change)

pub move_number-requires-clause-within : goal.move_number-requires-clause-within
move_number-requires-clause-within c =
    let xs = c.args.self.now.numbers.items in
    subst (λ windows. first_holding c.size_of.result c.args.change.place ≤ length windows) (sym c.requires.settled.0)
    (subst (λ size. first_holding size c.args.change.place ≤ length (windows_of c.args.self.now.values c.args.self.now.most (size_of c.args.self.now.window) xs)) (sym (size_is (goal.at.move_number-requires-clause-within c).After-size_of))
    (place_held c.args.self.now.values c.args.self.now.most (size_of c.args.self.now.window) xs c.args.change.place (change_within c.args.self.now.values xs c.args.change c.requires.change)))

pub index_mut-requires : goal.index_mut-requires
index_mut-requires c =
    let within = change_within c.args.self.now.values c.args.self.now.numbers.items c.args.change c.requires.change in
    let ok = c.args.self.now.numbers.ok in
    omega (arith, within, ok.0)

pub returns-clause-settled : goal.returns-clause-settled
returns-clause-settled c =
    let fits : FitsSigned w64 c.args.change.new = search rules in
    let size = size_is (goal.at.returns-clause-settled c).After-size_of in
    rw (to_z-of_z w64 c.args.change.new fits) (
      c.move_number.ensures.each
          ∙ ap (λ size. number_moved c.args.self.now.values size c.args.change c.args.self.now.windows.each.items) size
          ∙ ap (number_moved c.args.self.now.values (size_of c.args.self.now.window) c.args.change) c.requires.settled.0
          ∙ windows_moved c.args.self.now.values c.args.self.now.most (size_of c.args.self.now.window) c.args.self.now.numbers.items c.args.change c.requires.change,
      c.move_number.ensures.kept,
    )
