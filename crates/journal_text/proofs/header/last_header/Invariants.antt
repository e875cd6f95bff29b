use Rattle.std.proofs.Common.{◌≡◌, ◌+◌, ◌≤◌, length, None}
use Rattle.journal_text.specs.Refusal.{split}
use Rattle.journal_text.specs.Headers.{last_in}
use Rattle.journal_text.proofs.header.last_header.Given as goal

abbrev pub invariant-loop : goal.invariant-loop
invariant-loop l = (last_in l.at l.found (split 10 l.rest) ≡ last_in 0 None (split 10 l.text)) × (l.at + length l.rest ≡ length l.text) × (l.counter ≤ l.at)
