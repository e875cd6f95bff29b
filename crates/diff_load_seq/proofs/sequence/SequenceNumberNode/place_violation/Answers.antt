use Rattle.std.proofs.Common.{◌≡◌, ◌<◌, ◌-◌, ◌^◌, ◌∙◌, ap, sym, arith, rules, pos, cond, get_or, length, w64}
use Rattle.std.specs.Prelude.{FitsSigned}
use Rattle.std.specs.List.{range_with_len}
use Rattle.std.proofs.lemmas.Int.{to_z-of_z}
use Rattle.std.proofs.lemmas.List.{get_or_default}
use Rattle.cbl_base.specs.Arithmetic.{exact}
use Rattle.cbl_base.specs.Sets.{is_member}
use Rattle.cbl_violations.specs.Fitting.{excess}
use Rattle.cbl_violations.specs.Violations.Sequence.{size_of, windows_in, holds_place, surplus_in_window, sequence_violation_at}
use Rattle.cbl_violations.proofs.FitLemmas.{unwrapped}
use Rattle.cbl_violations.proofs.SequenceRun.{sum_where, sum_where_fits}
use Rattle.diff_load_seq.specs.Parts.{sum_of}
use Rattle.diff_load_seq.specs.Levels.{excesses_between}
use Rattle.diff_load_seq.specs.Windows.{windows_of, first_holding, last_holding}
use Rattle.diff_load_seq.proofs.WindowLemmas.{windows_length}
use Rattle.diff_load_seq.proofs.WindowSums.{held_sum}
use Rattle.diff_load_seq.proofs.sequence.SequenceNumberNode.place_violation.Goals as goal
use Rattle.diff_load_seq.proofs.sequence.SequenceNumberNode.place_violation.Goals.{After-contains, After-windows_holding-holding}

-- whether the number at the place is in the set
member : (c : After-contains) → c.contains.result ≡ is_member (get_or c.args.self.now.numbers.items c.args.place (pos 0)) c.args.self.now.values
member c =
    let fits : FitsSigned w64 c.index.result.now = search rules in
    c.contains.ensures
    ∙ ap (λ x. is_member x c.args.self.now.values) (to_z-of_z w64 c.index.result.now fits ∙ c.index.ensures ∙ get_or_default c.args.self.now.numbers.items c.args.place c.index.result.now (pos 0) c.requires.within)

-- the windows that hold it
size_is : (c : After-windows_holding-holding) → c.size_of.result ≡ size_of c.args.self.now.window
size_is c = let fits : FitsSigned w64 c.args.self.now.window = search rules in c.size_of.ensures ∙ ap size_of (to_z-of_z w64 c.args.self.now.window fits)

first_is : (c : After-windows_holding-holding) → c.windows_holding-holding.result.first ≡ first_holding (size_of c.args.self.now.window) c.args.place
first_is c = c.windows_holding-holding.ensures.first ∙ ap (λ size. first_holding size c.args.place) (size_is c)

last_is : (c : After-windows_holding-holding) → c.windows_holding-holding.result.last ≡ last_holding c.args.place (windows_in (size_of c.args.self.now.window) c.args.self.now.numbers.items)
last_is c =
    let ok = c.args.self.now.windows.each.ok in
    let len : c.len.result ≡ windows_in (size_of c.args.self.now.window) c.args.self.now.numbers.items = omega (arith, c.len.ensures, ok.0, ap length c.requires.settled.0, windows_length c.args.self.now.values c.args.self.now.most (size_of c.args.self.now.window) c.args.self.now.numbers.items) in
    c.windows_holding-holding.ensures.last ∙ ap (last_holding c.args.place) len

pub returns-then-not-contains : goal.returns-then-not-contains
unfolding sequence_violation_at
returns-then-not-contains c =
    let values = c.args.self.now.values in
    let most = c.args.self.now.most in
    let size = size_of c.args.self.now.window in
    let xs = c.args.self.now.numbers.items in
    sym (ap (λ b. cond b (sum_where (holds_place size c.args.place) (λ start. excess (surplus_in_window values most size xs start)) (range_with_len 0 (windows_in size xs))) (pos 0))
    (sym (member (goal.at.returns-then-not-contains c).After-contains) ∙ c.if-not-contains.true))

pub excess_between-requires-clause-order : goal.excess_between-requires-clause-order
excess_between-requires-clause-order c =
    let at = (goal.at.excess_between-requires-clause-order c).After-windows_holding-holding in
    omega (arith, first_is at, last_is at, c.requires.within)

pub returns : goal.returns
unfolding sequence_violation_at
returns c =
    let values = c.args.self.now.values in
    let most = c.args.self.now.most in
    let size = size_of c.args.self.now.window in
    let xs = c.args.self.now.numbers.items in
    let at = (goal.at.returns c).After-windows_holding-holding in
    let short : length c.args.self.now.numbers.items < 2 ^ 63 = search rules in
    let held = sum_where (holds_place size c.args.place) (λ start. excess (surplus_in_window values most size xs start)) (range_with_len 0 (windows_in size xs)) in
    let sum = ap (λ windows. sum_of (excesses_between windows c.windows_holding-holding.result.first (c.windows_holding-holding.result.last - c.windows_holding-holding.result.first))) c.requires.settled.0
    ∙ ap (λ first. sum_of (excesses_between (windows_of values most size xs) first (c.windows_holding-holding.result.last - first))) (first_is at)
    ∙ ap (λ last. sum_of (excesses_between (windows_of values most size xs) (first_holding size c.args.place) (last - first_holding size c.args.place))) (last_is at)
    ∙ held_sum values most c.args.self.now.window xs c.requires.valued short c.args.place c.requires.within in
    let fit = sum_where_fits values most c.args.self.now.window xs c.requires.valued (holds_place size c.args.place) in
    to_z-of_z w64 c.unwrap_or.result (search rules)
    ∙ unwrapped held c.excess_between.result c.unwrap_or.result fit (c.excess_between.ensures ∙ ap exact sum) c.unwrap_or.ensures
    ∙ sym (ap (λ b. cond b (sum_where (holds_place size c.args.place) (λ start. excess (surplus_in_window values most size xs start)) (range_with_len 0 (windows_in size xs))) (pos 0))
    (sym (member (goal.at.returns c).After-contains) ∙ c.if-not-contains.false))
