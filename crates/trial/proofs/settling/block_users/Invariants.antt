use Rattle.std.proofs.Common.{◌≡◌, ◌≢◌, ℕ, ◌+◌, ◌*◌, ◌≤◌, take, length}
use Rattle.std.specs.BTreeMap.{get}
use Rattle.std.specs.Ordering.{nat_cmp}
use Rattle.store_turns.specs.Meaning.{layer_of}
use Rattle.store_turns.specs.Cones.{has, chosen}
use Rattle.store_turns.specs.Waits.{waits}
use Rattle.store_turns.specs.Telling.{places_in, blocked}
use Rattle.trial.specs.Overlays.{noted}
use Rattle.trial.proofs.settling.block_users.Given as goal

abbrev pub invariant-loop-id : goal.invariant-loop-id
invariant-loop-id g l = record {
  here : (j : ℕ) → waits l.overlay.waiting (layer_of l.frame j) j ≡ blocked (places_in j (chosen (has l.members) (take l.id-index l.uses))) (waits l.initial.overlay.waiting (layer_of l.frame j) j);
  elsewhere : (k j : ℕ) → k ≢ layer_of l.frame j → waits l.overlay.waiting k j ≡ waits l.initial.overlay.waiting k j;
  lost : l.overlay.lost ≡ l.initial.overlay.lost;
  changes : l.overlay.changes ≡ l.initial.overlay.changes;
  roots : (j : ℕ) → get nat_cmp l.overlay.roots j ≡ noted (places_in j (chosen (has l.members) (take l.id-index l.uses))) l.root (get nat_cmp l.initial.overlay.roots j);
  steps : l.steps ≤ l.initial.steps + 2 * length (chosen (has l.members) (take l.id-index l.uses));
}
