use Rattle.std.proofs.Common.{◌≡◌, length}
use Rattle.bench.proofs.store.queens.start_of.Given as goal

abbrev pub invariant-loop-cell : goal.invariant-loop-cell
invariant-loop-cell l = length l.start.items ≡ l.cell
