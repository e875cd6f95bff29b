use Rattle.std.proofs.Common.{◌≡◌, ◌≢◌, ℕ, ◌+◌, ◌*◌, ◌≤◌, map, take, length}
use Rattle.cbl_base.specs.declared.input.Input.TheVariants.{Int}
use Rattle.store_turns.specs.Waits.{waits}
use Rattle.store_turns.specs.Cones.{has, chosen}
use Rattle.store_turns.specs.Telling.{change_to, layer_in, places_in, pushed}
use Rattle.store_turns.proofs.telling.push_numbers.Given as goal

abbrev pub invariant-loop-id : goal.invariant-loop-id
invariant-loop-id g l = record {
  here : (j : ℕ) → waits l.waiting (layer_in l.layers j) j ≡ pushed (map (λ p. change_to p (Int l.old) (Int l.new)) (places_in j (chosen (has l.members) (take l.id-index l.uses)))) (waits l.initial.waiting (layer_in l.layers j) j);
  elsewhere : (k j : ℕ) → k ≢ layer_in l.layers j → waits l.waiting k j ≡ waits l.initial.waiting k j;
  steps : l.steps ≤ l.initial.steps + 2 * length (chosen (has l.members) (take l.id-index l.uses));
}
