use Rattle.std.proofs.Common.{ℕ, ◌<◌}
use Rattle.term_model.specs.Checks.{IsRanked}
use Rattle.term_model.proofs.usable.are_ranked.Given as goal

abbrev pub invariant-loop-place : goal.invariant-loop-place
invariant-loop-place l = (j : ℕ) → j < l.place → IsRanked l.named l.ranks l.count j
