use Rattle.std.proofs.Common.{◌≡◌, drop}
use Rattle.journal_text.specs.Reading.{digits_from}
use Rattle.journal_text.proofs.numbers.digits_of.Given as goal

abbrev pub invariant-loop-byte : goal.invariant-loop-byte
invariant-loop-byte l = digits_from l.number (drop l.byte-index l.word) ≡ digits_from 0 l.word
