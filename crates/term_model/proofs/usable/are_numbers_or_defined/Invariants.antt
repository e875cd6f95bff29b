use Rattle.std.proofs.Common.{ℕ, ◌<◌}
use Rattle.term_model.specs.Checks.{IsNumberOrDefined}
use Rattle.term_model.proofs.usable.are_numbers_or_defined.Given as goal

abbrev pub invariant-loop-place : goal.invariant-loop-place
invariant-loop-place l = (j : ℕ) → j < l.place → IsNumberOrDefined l.table l.vars j
