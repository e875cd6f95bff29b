use Rattle.std.proofs.Common.{◌≡◌, None, replicate}
use Rattle.model_values.proofs.settling.none_known.Given as goal

abbrev pub invariant-loop-cell : goal.invariant-loop-cell
invariant-loop-cell l = l.cells.items ≡ replicate l._cell None
