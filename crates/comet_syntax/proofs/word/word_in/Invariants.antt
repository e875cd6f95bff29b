use Rattle.std.specs.Prelude.{◌≡◌, true, drop}
use Rattle.comet_syntax.specs.Word.{are_spelled_so, has_spelling}
use Rattle.comet_syntax.proofs.word.word_in.Given as goal

-- what is left is right, and has the spelling where the whole has it
abbrev pub invariant-loop-entry : goal.invariant-loop-entry
invariant-loop-entry l = record {
  right : are_spelled_so (drop l.entry-index l.row) ≡ true;
  same : has_spelling (drop l.entry-index l.row) l.bytes ≡ has_spelling l.row l.bytes;
}
