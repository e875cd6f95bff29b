use Rattle.std.proofs.Common.{◌≡◌, drop}
use Rattle.journal_text.specs.Printed.{loops_ask_pool}
use Rattle.journal_text.proofs.printing.loops_ask_pool.Given as goal

abbrev pub invariant-loop-history : goal.invariant-loop-history
invariant-loop-history l = loops_ask_pool l.loops ≡ loops_ask_pool (drop l.history-index l.loops)
