use Rattle.std.proofs.Common.{◌≡◌, ◌<◌, ◌≤◌, ℕ, [], length, All}
use Rattle.store_turns.specs.Meaning.{ids_of}
use Rattle.store_turns.specs.Telling.{positions, places_in}
use Rattle.store_build.specs.Lists.{list_in}
use Rattle.store_build.proofs.uses.uses_of.Given as goal

abbrev pub invariant-loop-user : goal.invariant-loop-user
invariant-loop-user l = record {
  count : length l.uses.items ≡ length l.inputs;
  before : (i j : ℕ) → j < l.user → places_in j (list_in l.uses.items i) ≡ positions i (ids_of (list_in l.inputs j));
  after : (i j : ℕ) → l.user ≤ j → places_in j (list_in l.uses.items i) ≡ [];
  users : (i : ℕ) → All (λ u. u.0.0 < length l.inputs) (list_in l.uses.items i);
}
