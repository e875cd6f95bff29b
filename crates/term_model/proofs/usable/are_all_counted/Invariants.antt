use Rattle.std.proofs.Common.{ℕ, ◌<◌}
use Rattle.term_model.specs.Checks.{IsAllCounted}
use Rattle.term_model.proofs.usable.are_all_counted.Given as goal

abbrev pub invariant-loop-place : goal.invariant-loop-place
invariant-loop-place l = (j : ℕ) → j < l.place → IsAllCounted l.counts l.totals j
