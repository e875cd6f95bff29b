use Rattle.std.proofs.Common.{◌≡◌, ℕ, ◌+◌, ◌-◌, length, slice_get, Some}
use Rattle.trial.proofs.changes.lengthen.Given as goal

abbrev pub invariant-loop-places : goal.invariant-loop-places
invariant-loop-places l = (j p : ℕ) → slice_get l.initial.places.items j ≡ Some p → slice_get l.places.items j ≡ Some p

abbrev pub decreases-loop-places : goal.decreases-loop-places
decreases-loop-places l = l.id + 1 - length l.places.items
