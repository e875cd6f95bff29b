use Rattle.std.specs.Prelude.{ℕ, List, ◌++◌, length}
use Rattle.comet_syntax.specs.Tokens.StringLiteral.{IsStringBehindQuote}
use Rattle.comet_syntax.proofs.lex_string.read_string.Given as goal

-- what stands behind the bytes so far goes on as the whole string does
abbrev pub invariant-loop-spelled : goal.invariant-loop-spelled
invariant-loop-spelled l = record {
  forward : (value rest : List ℕ) → IsStringBehindQuote l.rest value rest → IsStringBehindQuote l.text (l.value.items ++ value) rest;
  backward : (value rest : List ℕ) → IsStringBehindQuote l.text value rest → (left : List ℕ) × IsStringBehindQuote l.rest left rest;
}

abbrev pub decreases-loop-spelled : goal.decreases-loop-spelled
decreases-loop-spelled l = length l.rest
