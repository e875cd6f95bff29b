-- How nodes hang together: of which kinds their values are, and what a frame keeps. A rule of this project.
use Rattle.std.specs.Prelude.{◌≡◌, ℕ, pos, ◌+◌, ◌-◌, ◌<◌, true, false, cond, nat_lt, List, [], ◌∷◌, length, map, slice_index_or, Ok, All}
use Rattle.cbl_base.specs.Inputs.{InputKind, number_kind, kind_of, kinds_of}
use Rattle.cbl_base.specs.NodeLaw.{Rule}
use Rattle.cbl_base.specs.declared.input.Input.{Input}
use Rattle.cbl_base.specs.declared.input.Input.TheVariants.{Int}
use Rattle.store_turns.specs.declared.frame.Frame.{Frame}
use Rattle.store_turns.specs.Cones.{AreCones}
use Rattle.store_turns.specs.Meaning.{Graph, graph_of, inputs_in, layer_of, uses_in, is_empty}
use Rattle.store_turns.specs.Turns.{IsShape}

-- the value of an id
abbrev pub cell_of : List Input → ℕ → Input
cell_of cells id = slice_index_or cells id (Int (pos 0))

-- a cell holds its own value
abbrev pub held_of : List (List Input) → List Input → Frame → ℕ → List Input
held_of helds cells frame id = cond (nat_lt id frame.first) (cell_of cells id ∷ []) (slice_index_or helds (id - frame.first) [])

-- of which kind the values of each id are: free cells hold numbers, and over inputs of these kinds an
-- operation's values are of its id's kind
pub record AreKinds (g : Graph) (kinds : ℕ → InputKind) : Type 0 where
  pub free : (id : ℕ) → id < g.size → g.is_free id ≡ true → kinds id ≡ number_kind
  pub values : (id : ℕ) (xs : List Input) (x : Input) → id < g.size → g.is_free id ≡ false → kinds_of xs ≡ map kinds (g.inputs id) → g.op id xs ≡ Ok x → kind_of x ≡ kinds id

-- the frame of a store whose nodes have these rules
pub record IsFrame (rules : List Rule) (frame : Frame) (kinds : ℕ → InputKind) : Type 0 where
  pub shape : IsShape (graph_of rules frame) (layer_of frame) (uses_in frame)
  pub small : length frame.inputs.items < 4294967296
  pub layers : length frame.layers.items ≡ length frame.inputs.items
  pub uses : length frame.uses.items ≡ length frame.inputs.items
  pub first : frame.first + length rules ≡ length frame.inputs.items
  pub users : (id : ℕ) → All (λ u. u.0.0 < length frame.layers.items) (uses_in frame id)
  pub defined : (id : ℕ) → nat_lt id frame.first ≡ true → is_empty (inputs_in frame id) ≡ false → (i : ℕ) × (inputs_in frame id ≡ i ∷ [])
  pub kinded : AreKinds (graph_of rules frame) kinds
  pub cones : AreCones frame
