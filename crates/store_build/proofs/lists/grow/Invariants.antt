use Rattle.std.proofs.Common.{◌≡◌, ◌+◌, ℕ, length}
use Rattle.store_build.specs.Lists.{list_in}
use Rattle.store_build.proofs.lists.grow.Given as goal

abbrev pub invariant-loop-list : goal.invariant-loop-list
invariant-loop-list g l = (length l.lists.items ≡ length l.fn.lists.items + l._list) × ((i : ℕ) → list_in l.lists.items i ≡ list_in l.fn.lists.items i)
