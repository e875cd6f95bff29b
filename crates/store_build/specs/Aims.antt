-- What a store is built of, and what its ids are to come to. A rule of this project.
use Rattle.std.specs.Prelude.{◌≡◌, ℕ, ℤ, pos, ◌+◌, ◌-◌, ◌<◌, ◌≤◌, true, false, cond, nat_lt, ◌&&◌, List, [], ◌∷◌, length, map, slice_get, slice_index_or, Some, Vec, All, IsTrue}
use Rattle.cbl_base.specs.Inputs.{kinds_of}
use Rattle.cbl_base.specs.NodeLaw.{Rule}
use Rattle.cbl_base.specs.declared.ids.NodeId.{NodeId}
use Rattle.cbl_base.specs.declared.input.Input.{Input}
use Rattle.cbl_base.specs.declared.input.Input.TheVariants.{Int}
use Rattle.store_turns.specs.declared.outcome.Outcome.{Outcome}
use Rattle.store_turns.specs.declared.outcome.Outcome.TheVariants.{Value}
use Rattle.store_turns.specs.declared.frame.Frame.{Frame}
use Rattle.store_turns.specs.Cones.{AreCones}
use Rattle.store_turns.specs.Meaning.{Graph, AreLayers, computed, graph_of, inputs_in, layer_of, uses_in, ids_of, rule_value, the_one, is_empty, values_of}
use Rattle.store_turns.specs.Turns.{IsShape}
use Rattle.store_build.specs.Lists.{list_in}

-- the value that a free cell starts with
abbrev pub start_of : List ℤ → ℕ → Input
start_of start id = Int (slice_index_or start id (pos 0))

-- the layer of an id
abbrev pub layer_at : List ℕ → ℕ → ℕ
layer_at layers id = slice_index_or layers id 0

module _ {Z : Type 0} where
  -- the graph of so many cells and of nodes behind them with these rules, over these lists of inputs
  abbrev pub graph_over : List Rule → ℕ → List (Vec NodeId Z) → Graph
  graph_over rules first inputs = record {
    size = length inputs;
    inputs = λ id. ids_of (list_in inputs id);
    is_free = λ id. nat_lt id first && is_empty (ids_of (list_in inputs id));
    op = λ id xs. cond (nat_lt id first) (the_one xs) (rule_value (slice_get rules (id - first)) xs);
  }

  -- each node takes inputs of the number and kinds that its inputs come to, where all have values
  abbrev pub Takes : List Rule → ℕ → List (Vec NodeId Z) → (ℕ → Outcome) → Type 0
  Takes rules first inputs o = (id : ℕ) (rule : Rule) (xs : List Input) → first ≤ id → slice_get rules (id - first) ≡ Some rule → values_of (map o (ids_of (list_in inputs id))) ≡ Some xs → IsTrue (rule.takes (kinds_of xs))

  -- so the ids hang together: each list holds ids that are there, a cell takes the value of one at most,
  -- and each id is in a higher layer than those whose values it takes, free cells in layer 0
  pub record AreLinked (rules : List Rule) (first : ℕ) (inputs : List (Vec NodeId Z)) (layers : List ℕ) : Type 0 where
    pub few : length inputs < 4294967296
    pub count : first + length rules ≡ length inputs
    pub short : (id : ℕ) → length (list_in inputs id) ≤ 4294967296
    pub defined : (id : ℕ) → nat_lt id first ≡ true → is_empty (ids_of (list_in inputs id)) ≡ false → (i : ℕ) × (ids_of (list_in inputs id) ≡ i ∷ [])
    pub planned : length layers ≡ length inputs
    pub rising : AreLayers (graph_over rules first inputs) (layer_at layers)
    pub lowest : (id : ℕ) → (graph_over rules first inputs).is_free id ≡ true → layer_at layers id ≡ 0

-- what the ids are to come to, and the rules of the nodes
pub record Aim : Type 0 where
  pub rules : List Rule
  pub outcome : ℕ → Outcome

-- each id but a free cell is to come to what its operation gives of what its inputs are to come to
abbrev pub IsComputed : Aim → Frame → Type 0
IsComputed aim frame = (id : ℕ) → id < length frame.inputs.items → (graph_of aim.rules frame).is_free id ≡ false → aim.outcome id ≡ computed (graph_of aim.rules frame) aim.outcome id

-- over a frame whose free cells start with these numbers that is the meaning, and each node takes what its
-- inputs come to
pub record IsAim (aim : Aim) (frame : Frame) (start : List ℤ) : Type 0 where
  pub cells : frame.first ≡ length start
  pub count : frame.first + length aim.rules ≡ length frame.inputs.items
  pub within : (id : ℕ) → All (λ i. i.0 < length frame.inputs.items) (list_in frame.inputs.items id)
  pub defined : (id : ℕ) → nat_lt id frame.first ≡ true → is_empty (inputs_in frame id) ≡ false → (i : ℕ) × (inputs_in frame id ≡ i ∷ [])
  pub free : (id : ℕ) → id < length frame.inputs.items → (graph_of aim.rules frame).is_free id ≡ true → aim.outcome id ≡ Value (start_of start id)
  pub computed : IsComputed aim frame
  pub takes : Takes aim.rules frame.first frame.inputs.items aim.outcome

-- so a frame is laid out: what `IsFrame` says, but of the values' kinds
pub record IsLaid (rules : List Rule) (frame : Frame) : Type 0 where
  pub shape : IsShape (graph_of rules frame) (layer_of frame) (uses_in frame)
  pub small : length frame.inputs.items < 4294967296
  pub layers : length frame.layers.items ≡ length frame.inputs.items
  pub uses : length frame.uses.items ≡ length frame.inputs.items
  pub first : frame.first + length rules ≡ length frame.inputs.items
  pub users : (id : ℕ) → All (λ u. u.0.0 < length frame.layers.items) (uses_in frame id)
  pub within : (id : ℕ) → All (λ i. i.0 < length frame.inputs.items) (list_in frame.inputs.items id)
  pub defined : (id : ℕ) → nat_lt id frame.first ≡ true → is_empty (inputs_in frame id) ≡ false → (i : ℕ) × (inputs_in frame id ≡ i ∷ [])
  pub cones : AreCones frame
