-- Numbers that are too wide for 64 bits are in no option's range.
use Rattle.std.specs.Prelude.{◌≡◌, ◌<◌, ◌^◌, ℕ, true, List, length, None, Result, Ok, Err}
use Rattle.std.specs.Char.{is_ascii_digit}
use Rattle.std.specs.List.{list_all}
use Rattle.std.specs.Result.{result_ok}
use Rattle.std.specs.Str.Parse.{digits_value, ParsesUnsigned}
use Rattle.std.proofs.Common.{arith, rules}
use Rattle.std.proofs.lemmas.Str.Parse.{IsNumeralModel, numerals_by_value, parse_digits}
use Rattle.comet_words.specs.Values.{is_number, number}

own : IsNumeralModel (λ ds. list_all is_ascii_digit ds ≡ true) (digits_value 10)
own = numerals_by_value _ (search rules)

number_parts : (value : List ℕ) → is_number value ≡ true → (0 < length value) × (list_all is_ascii_digit value ≡ true)
number_parts value is = grind arith

out_of_range : (value : List ℕ) (least most : ℕ) → most < digits_value 10 value → number least most value ≡ None
out_of_range value least most above = grind arith

pub too_wide : {E : Type 0} (value : List ℕ) (least most : ℕ) (parsed : Result ℕ E) → ParsesUnsigned 64 10 value parsed → result_ok parsed ≡ None
    → is_number value ≡ true → most < 2 ^ 64 → number least most value ≡ None
too_wide value least most (Ok n) parses none is fits = cc
too_wide value least most (Err e) parses none is fits =
    let parts = number_parts value is in
    let wide : digits_value 10 value < 2 ^ 64 → ⊥ = λ small. parse_digits own 64 value (Err e) parses parts.1 (parts.0, small) in
    out_of_range value least most (omega (arith, wide))
