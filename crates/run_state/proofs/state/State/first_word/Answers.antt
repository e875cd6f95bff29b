-- The word behind the blanks is no number, or is the number.
use Rattle.std.proofs.Common.{◌≡◌, ℕ, [], get_or, drop, map, sym, ◌∙◌, ap, arith, rules}
use Rattle.std.proofs.lemmas.Int.{ints, to_z-of_z}
use Rattle.std.proofs.lemmas.List.{map-set, length-drop}
use Rattle.comet_meaning.specs.Data.{behind_blanks}
use Rattle.run_state.specs.Views.{state_seen}
use Rattle.run_state.proofs.ArrayLaws.{seen_there}
use Rattle.run_state.proofs.WordLaws.{bad_word, good_word, word_is_there}
use Rattle.run_state.proofs.state.State.first_word.Goals as goal

pub returns-in-None-clause-did : goal.returns-in-None-clause-did
returns-in-None-clause-did c = λ printed.
    let text = c.args.self.now.data.items in
    let n = c.index.result.now in
    let start = c.behind_blanks-start.result in
    let unread : get_or (map (λ (i : ℕ). drop i text) c.args.self.now.inputs.items) c.args.input [] ≡ drop n text = seen_there (λ (i : ℕ). drop i text) c.args.self.now.inputs.items c.args.input n [] c.index.ensures (omega (arith, c.args.self.now.inputs.ok.0)) in
    let rest = rw c.deref.ensures.value at c.behind_blanks-start.ensures.rest in
    let word = rw c.deref-2.ensures.value at c.word_end-end.ensures.word in
    let bad = rw c.deref-3.ensures.value at c.in-None.ensures in
    let there = word_is_there (drop n text) (drop start text) rest (omega (arith, length-drop start text, c.args.self.now.data.ok.0)) in
    let begun : behind_blanks (get_or (map (λ (i : ℕ). drop i text) c.args.self.now.inputs.items) c.args.input []) ≡ drop start text = ap behind_blanks unread ∙ sym rest in
    rw begun (bad_word c.args.at c.args.input (drop start text) _ (state_seen c.args.self.now printed) (sym word) (rw word there) bad)

pub returns-in-Some-clause-did : goal.returns-in-Some-clause-did
returns-in-Some-clause-did c = λ printed.
    let text = c.args.self.now.data.items in
    let n = c.index.result.now in
    let start = c.behind_blanks-start.result in
    let unread : get_or (map (λ (i : ℕ). drop i text) c.args.self.now.inputs.items) c.args.input [] ≡ drop n text = seen_there (λ (i : ℕ). drop i text) c.args.self.now.inputs.items c.args.input n [] c.index.ensures (omega (arith, c.args.self.now.inputs.ok.0)) in
    let rest = rw c.deref.ensures.value at c.behind_blanks-start.ensures.rest in
    let word = rw c.deref-2.ensures.value at c.word_end-end.ensures.word in
    let behind = rw c.deref-2.ensures.value at c.word_end-end.ensures.rest in
    let good = rw c.deref-3.ensures.value at c.in-Some.ensures in
    let there = word_is_there (drop n text) (drop start text) rest (omega (arith, length-drop start text, c.args.self.now.data.ok.0)) in
    let begun : behind_blanks (get_or (map (λ (i : ℕ). drop i text) c.args.self.now.inputs.items) c.args.input []) ≡ drop start text = ap behind_blanks unread ∙ sym rest in
    let read = good_word c.args.at c.args.input (drop start text) _ _ (state_seen c.args.self.now printed) _ (sym word) (sym behind) (rw word there) good in
    let kept = map-set (λ (i : ℕ). drop i text) c.args.self.now.inputs.items c.args.input c.word_end-end.result in
    rw (begun, read, kept) (search (rules, ints, to_z-of_z))
