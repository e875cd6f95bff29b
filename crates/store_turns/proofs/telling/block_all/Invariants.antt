use Rattle.std.proofs.Common.{◌≡◌, ◌≢◌, ℕ, ◌+◌, ◌≤◌, take, length}
use Rattle.store_turns.specs.Waits.{waits}
use Rattle.store_turns.specs.Cones.{has, chosen}
use Rattle.store_turns.specs.Telling.{layer_in, places_in, blocked}
use Rattle.store_turns.proofs.telling.block_all.Given as goal

abbrev pub invariant-loop-id : goal.invariant-loop-id
invariant-loop-id g l = record {
  here : (j : ℕ) → waits l.waiting (layer_in l.layers j) j ≡ blocked (places_in j (chosen (has l.members) (take l.id-index l.uses))) (waits l.initial.waiting (layer_in l.layers j) j);
  elsewhere : (k j : ℕ) → k ≢ layer_in l.layers j → waits l.waiting k j ≡ waits l.initial.waiting k j;
  steps : l.steps ≤ l.initial.steps + length (chosen (has l.members) (take l.id-index l.uses));
}
