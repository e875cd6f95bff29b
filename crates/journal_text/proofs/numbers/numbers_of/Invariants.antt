use Rattle.std.proofs.Common.{◌≡◌}
use Rattle.journal_text.specs.Refusal.{split}
use Rattle.journal_text.specs.Reading.{numbers_of}
use Rattle.journal_text.proofs.NumberLaws.{more}
use Rattle.journal_text.proofs.numbers.numbers_of.Given as goal

abbrev pub invariant-loop : goal.invariant-loop
invariant-loop l = more l.numbers.items (numbers_of (split 44 l.rest)) ≡ numbers_of (split 44 l.inside)
