use Rattle.std.proofs.Common.{◌≡◌, ◌++◌, ℕ, length, take}
use Rattle.store_turns.specs.Meaning.{ids_of}
use Rattle.store_turns.specs.Telling.{positions}
use Rattle.store_build.specs.Lists.{list_in}
use Rattle.store_build.specs.Uses.{uses_by}
use Rattle.store_build.proofs.uses.add_uses.Given as goal

abbrev pub invariant-loop-place : goal.invariant-loop-place
invariant-loop-place l = record {
  count : length l.uses.items ≡ length l.fn.uses.items;
  more : (i : ℕ) → list_in l.uses.items i ≡ list_in l.fn.uses.items i ++ uses_by l.user (positions i (ids_of (take l.place l.inputs)));
}
