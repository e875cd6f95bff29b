use Rattle.std.specs.Prelude.{◌≡◌, ◌<◌, ◌^◌, true, drop}
use Rattle.std.specs.List.{list_all}
use Rattle.comet_syntax.specs.Lexeme.{is_digit}
use Rattle.comet_syntax.specs.Number.{digits_behind, number_of_digits}
use Rattle.comet_syntax.proofs.decimal.wide_number.Given as goal

abbrev pub invariant-loop-digit : goal.invariant-loop-digit
invariant-loop-digit l = record {
  so_far : digits_behind l.number (drop l.digit-index l.digits) ≡ number_of_digits l.digits;
  fits : l.number < 2 ^ 64;
  digits : list_all is_digit (drop l.digit-index l.digits) ≡ true;
}
