use Rattle.std.proofs.Common.{◌≡◌, ℕ, [], length}
use Rattle.store_build.specs.Lists.{list_in}
use Rattle.model_nodes.proofs.lists.empty_lists.Given as goal

abbrev pub invariant-loop-list : goal.invariant-loop-list
invariant-loop-list l = record {
  count : length l.lists.items ≡ l._list;
  empty : (k : ℕ) → list_in l.lists.items k ≡ [];
}
