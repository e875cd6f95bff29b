-- What is left to be owned, behind what is, is the whole.
use Rattle.std.proofs.Common.{◌≡◌, ℕ, List, [], length, map, take, drop}
use Rattle.comet_meaning.specs.Calls.{own_arrays}
use Rattle.run_values.specs.Views.{value_seen}
use Rattle.run_state.specs.Views.{state_seen}
use Rattle.run_state.proofs.state.State.own_arrays.Given as goal

abbrev pub invariant-loop-i : goal.invariant-loop-i
invariant-loop-i l = record {
  long : length l.owned.items ≡ length l.fn.values.items;
  fuel : l.self.fuel ≡ l.fn.self.fuel;
  owned : (printed : _) → own_arrays (drop l.i (map value_seen l.owned.items)) (take l.i (map value_seen l.owned.items)) (state_seen l.self printed) ≡ own_arrays (map value_seen l.fn.values.items) [] (state_seen l.fn.self printed);
}
