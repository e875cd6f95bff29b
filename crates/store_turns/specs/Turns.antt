-- What holds between two turns.
use Rattle.std.specs.Prelude.{◌⊎◌, ◌≡◌, ◌≢◌, ℕ, ◌+◌, ◌*◌, ◌<◌, ◌≤◌, true, false, List, [], map, Some, None, IsSome}
use Rattle.cbl_base.specs.declared.ids.NodeId.{NodeId}
use Rattle.cbl_base.specs.declared.input.Input.{Input}
use Rattle.cbl_base.specs.declared.input.Change.{Change}
use Rattle.store_turns.specs.declared.outcome.Outcome.{Outcome}
use Rattle.store_turns.specs.declared.outcome.Outcome.TheVariants.{Value}
use Rattle.store_turns.specs.Waits.{Wait}
use Rattle.store_turns.specs.Meaning.{Graph, AreLayers, computed}
use Rattle.store_turns.specs.Telling.{positions, places_in, to_come, Fits, NoneAtAny}

-- the order of turns: by layer, and then by id
abbrev pub rank : (ℕ → ℕ) → ℕ → ℕ
rank layer id = layer id * 4294967296 + id

-- the uses are the inputs seen from the other end, and the layers rise from free cells in layer 0
pub record IsShape (g : Graph) (layer : ℕ → ℕ) (uses : ℕ → List (NodeId × ℕ)) : Type 0 where
  pub few : g.size ≤ 4294967296
  pub layers : AreLayers g layer
  pub lowest : (id : ℕ) → g.is_free id ≡ true → layer id ≡ 0
  pub outside : (id : ℕ) → g.size ≤ id → g.inputs id ≡ []
  pub bound : (id : ℕ) → g.is_free id ≡ true → g.inputs id ≡ []
  pub uses_are : (id j : ℕ) → id < g.size → places_in j (uses id) ≡ positions id (g.inputs j)

-- o is what each id came to so far, held is what each holds, and w is what waits. What waits is later;
-- what doesn't wait is computed; what is held fits, where that is asked; and what is later is as before.
pub record InTurn (g : Graph) (layer : ℕ → ℕ) (before : ℕ → Input) (Later Fitted : ℕ → Type 0) (o : ℕ → Outcome) (held : ℕ → List Input) (w : ℕ → ℕ → Wait) : Type 0 where
  pub keyed : (l i : ℕ) → IsSome (w l i) → (l ≡ layer i) × (i < g.size) × (g.inputs i ≢ []) × Later i
  pub consistent : (j : ℕ) → j < g.size → g.is_free j ≡ false → w (layer j) j ≡ None → o j ≡ computed g o j
  pub fits : (j : ℕ) (x : Input) → Fitted j → j < g.size → g.is_free j ≡ false → o j ≡ Value x → Fits (held j) (map o (g.inputs j)) (to_come (w (layer j) j))
  pub beyond : (j : ℕ) → j < g.size → Later j → o j ≡ Value (before j)
  pub early : (i j : ℕ) → i < g.size → Later i → (ds : List Change) → to_come (w (layer j) j) ≡ Some ds → NoneAtAny ds (positions i (g.inputs j))

-- how the new outcome p of the id reached those that use it, from u to v
pub record Reached (g : Graph) (layer : ℕ → ℕ) (id : ℕ) (o p : ℕ → Outcome) (held : ℕ → List Input) (u v : ℕ → ℕ → Wait) : Type 0 where
  pub elsewhere : (l j : ℕ) → l ≢ layer j → v l j ≡ u l j
  pub grows : (j : ℕ) → IsSome (v (layer j) j) → IsSome (u (layer j) j) ⊎ (positions id (g.inputs j) ≢ [])
  pub quiet : (j : ℕ) → v (layer j) j ≡ None → (u (layer j) j ≡ None) × (computed g p j ≡ computed g o j)
  pub fit : (j : ℕ) → Fits (held j) (map o (g.inputs j)) (to_come (u (layer j) j)) → ((ds : List Change) → to_come (u (layer j) j) ≡ Some ds → NoneAtAny ds (positions id (g.inputs j))) → Fits (held j) (map p (g.inputs j)) (to_come (v (layer j) j))
  pub early : (i j : ℕ) → i ≢ id → ((ds : List Change) → to_come (u (layer j) j) ≡ Some ds → NoneAtAny ds (positions i (g.inputs j))) → (ds : List Change) → to_come (v (layer j) j) ≡ Some ds → NoneAtAny ds (positions i (g.inputs j))
