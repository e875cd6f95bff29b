use Rattle.std.proofs.Common.{ℕ, ◌<◌}
use Rattle.term_model.specs.Checks.{IsOwned}
use Rattle.term_model.proofs.usable.are_owned.Given as goal

abbrev pub invariant-loop-place : goal.invariant-loop-place
invariant-loop-place l = (j : ℕ) → j < l.place → IsOwned l.table l.defs j
