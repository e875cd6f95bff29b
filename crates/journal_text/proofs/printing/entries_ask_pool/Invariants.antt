use Rattle.std.proofs.Common.{◌≡◌, drop}
use Rattle.journal_text.specs.Printed.{entries_ask_pool}
use Rattle.journal_text.proofs.printing.entries_ask_pool.Given as goal

abbrev pub invariant-loop-entry : goal.invariant-loop-entry
invariant-loop-entry l = entries_ask_pool l.entries ≡ entries_ask_pool (drop l.entry-index l.entries)
