-- The number so far, and then the digits that are left, is the whole number.
use Rattle.std.proofs.Common.{◌≡◌, ◌≤◌, ◌^◌, drop}
use Rattle.comet_meaning.specs.Data.{digits_from, digits_value}
use Rattle.run_state.specs.Numbers.{at_most}
use Rattle.run_state.proofs.words.digits_value.Given as goal

abbrev pub invariant-loop-digit : goal.invariant-loop-digit
invariant-loop-digit l = record {
  small : l.value ≤ 2 ^ 63;
  rest : at_most (2 ^ 63) (digits_from l.value (drop l.digit-index l.digits)) ≡ at_most (2 ^ 63) (digits_value l.digits);
}
