use Rattle.std.proofs.Common.{◌≡◌, []}
use Rattle.journal_text.specs.declared.reader.Reader.TheVariants.{Between}
use Rattle.journal_text.specs.Refusal.{split}
use Rattle.journal_text.specs.Steps.{pieces_of}
use Rattle.journal_text.proofs.reader.read_lines.Given as goal

abbrev pub invariant-loop-line : goal.invariant-loop-line
invariant-loop-line l = pieces_of l.version l.line l.reader (split 10 l.rest) ≡ pieces_of l.version 2 (Between []) (split 10 l.lines)
