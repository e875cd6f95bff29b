use Rattle.std.proofs.Common.{◌≡◌, take, drop}
use Rattle.journal_text.specs.Refusal.{split}
use Rattle.journal_text.proofs.Cuts.{with_front}
use Rattle.journal_text.proofs.cutting.cut.Given as goal

abbrev pub invariant-loop-place : goal.invariant-loop-place
invariant-loop-place l = split l.at l.bytes ≡ with_front (take l.place l.bytes) (split l.at (drop l.place l.bytes))
