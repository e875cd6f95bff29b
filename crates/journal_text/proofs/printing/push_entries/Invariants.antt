use Rattle.std.proofs.Common.{◌≡◌, ◌++◌, map, drop}
use Rattle.journal_text.specs.Grammar.{entry_line, ended}
use Rattle.journal_text.proofs.printing.push_entries.Given as goal

abbrev pub invariant-loop-entry : goal.invariant-loop-entry
invariant-loop-entry l = l.out.items ++ ended (map (entry_line l.version) (drop l.entry-index l.entries)) ≡ l.fn.out.items ++ ended (map (entry_line l.version) l.entries)
