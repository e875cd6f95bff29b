use Rattle.std.proofs.Common.{◌≡◌, ℕ, None, length, get_or}
use Rattle.store_build.proofs.lists.nothing.Given as goal

abbrev pub invariant-loop-place : goal.invariant-loop-place
invariant-loop-place g l = (length l.places.items ≡ l._place) × ((i : ℕ) → get_or l.places.items i None ≡ None)
