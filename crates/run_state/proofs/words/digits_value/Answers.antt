-- A digit that is refused refuses the word.
use Rattle.std.proofs.Common.{◌≡◌, ◌+◌, ◌^◌, ◌∷◌, None, get_or, drop, sym, ◌∙◌}
use Rattle.std.proofs.lemmas.List.{drop_more}
use Rattle.comet_meaning.specs.Data.{digits_from}
use Rattle.run_state.specs.Numbers.{at_most}
use Rattle.run_state.proofs.DigitLaws.{digit_refused}
use Rattle.run_state.proofs.words.digits_value.Goals as goal

pub returns-in_err-value : goal.returns-in_err-value
returns-in_err-value c =
    let digits = c.args.digits.now in
    let value = c.loop-digit.value in
    let i = c.loop-digit.digit-index in
    let refused : at_most (2 ^ 63) (digits_from value (get_or digits i 0 ∷ drop (i + 1) digits)) ≡ None = digit_refused (2 ^ 63) value (get_or digits i 0) (drop (i + 1) digits) c.in_err-value.ensures.value in
    let none : at_most (2 ^ 63) (digits_from value (drop i digits)) ≡ None = rw (drop_more digits i 0 c.loop-digit-test.true) refused in
    c.from_residual.ensures ∙ sym none ∙ c.loop-digit.invariant.rest
