-- The part of a store that a trial follows: the ids that pass a test. A rule of this project.
use Rattle.std.specs.Prelude.{◌≡◌, ℕ, ℤ, pos, ◌-◌, ◌*◌, ◌+◌, ◌<◌, ◌≤◌, Bool, true, false, cond, ◌&&◌, List, [], ◌∷◌, length, map, slice_get, Result, IfOk, IfErr}
use Rattle.cbl_base.specs.NodeLaw.{Rule}
use Rattle.cbl_base.specs.declared.ids.NodeId.{NodeId}
use Rattle.cbl_base.specs.declared.ids.VarId.{VarId}
use Rattle.cbl_base.specs.declared.input.Input.{Input}
use Rattle.cbl_base.specs.declared.input.Input.TheVariants.{Int}
use Rattle.store_turns.specs.declared.frame.Frame.{Frame}
use Rattle.store_turns.specs.declared.outcome.Outcome.{Outcome}
use Rattle.store_turns.specs.Cones.{StandsOn, chosen}
use Rattle.store_turns.specs.Meaning.{Graph, IsMeaning, graph_of, inputs_in, layer_of, uses_in}
use Rattle.store_turns.specs.Touch.{differs, touch}
use Rattle.store_build.specs.Frames.{cell_of}
use Rattle.store_build.specs.Kept.{IsKept}
use Rattle.inc_store.specs.Moves.{moved_to, is_moved}
use Rattle.inc_store.specs.Stores.{IsWithin}
use Rattle.trial.specs.declared.fault.DifferenceFault.{DifferenceFault}
use Rattle.trial.specs.declared.fault.TrialFault.{TrialFault}
use Rattle.trial.specs.declared.overlay.Overlay.{Overlay}
use Rattle.trial.specs.Course.{Asked, InProbe, IsKnown}
use Rattle.trial.specs.Differences.{IsDifference, IsRefusal, IsStopped}

-- rules, what the nodes hold, how they hang together, and the values of all ids
pub record Part : Type 0 where
  pub rules : List Rule
  pub helds : List (List Input)
  pub frame : Frame
  pub cells : List Input

abbrev pub part_graph : Part → Graph
part_graph part = graph_of part.rules part.frame

abbrev pub value_in : Part → ℕ → Input
value_in part id = cell_of part.cells id

-- an id that passes is in the part what it is in the store
pub record IsInside (rules : List Rule) (frame : Frame) (cells : List Input) (part : Part) (id : ℕ) : Type 0 where
  pub inputs : inputs_in part.frame id ≡ inputs_in frame id
  pub layer : layer_of part.frame id ≡ layer_of frame id
  pub rule : frame.first ≤ id → slice_get part.rules (id - frame.first) ≡ slice_get rules (id - frame.first)
  pub value : value_in part id ≡ cell_of cells id
  pub values : map (value_in part) (inputs_in frame id) ≡ map (cell_of cells) (inputs_in frame id)

-- the part is itself what a store keeps, and what doesn't pass has neither inputs nor users in it, and holds 0
pub record IsPart (rules : List Rule) (frame : Frame) (cells : List Input) (test : ℕ → Bool) (part : Part) : Type 0 where
  pub kept : IsKept part.rules part.helds part.frame part.cells
  pub first : part.frame.first ≡ frame.first
  pub count : length part.frame.inputs.items ≡ length frame.inputs.items
  pub inside : (id : ℕ) → id < length frame.inputs.items → test id ≡ true → IsInside rules frame cells part id
  pub outside : (id : ℕ) → test id ≡ false → (inputs_in part.frame id ≡ []) × (value_in part id ≡ Int (pos 0))
  pub uses : (id : ℕ) → uses_in part.frame id ≡ chosen test (uses_in frame id)

-- the moves of ids that pass
abbrev pub moves_of : (ℕ → Bool) → List (VarId × ℤ) → List (VarId × ℤ)
moves_of test [] = []
moves_of test (m ∷ ms) = cond (test m.0.index) (m ∷ moves_of test ms) (moves_of test ms)

-- what is asked of a part
pub record Query : Type 0 where
  pub part : Part
  pub ask : Asked

-- the free cells' values after the moves, and the steps up to here are at most four times what is touched in the part
abbrev pub after_in : Query → ℕ → Input
after_in query = moved_to query.ask.moves (value_in query.part)

abbrev pub IsPaid : Query → ℕ → Type 0
IsPaid query steps = IsWithin (part_graph query.part) (value_in query.part) (after_in query) (is_moved query.ask.moves) (uses_in query.part.frame) query.ask.base steps

-- between two turns in the part; and when up to the target all has come to what it comes to after the moves
abbrev pub InQuery : Query → Overlay → (ℕ → Type 0) → ℕ → Type 0
InQuery query v Later steps = InProbe query.part.rules query.part.frame query.part.cells query.ask v Later steps

abbrev pub IsFound : Query → Overlay → ℕ → Type 0
IsFound query v target = IsKnown query.part.rules query.part.frame query.part.cells query.ask v.lost v.changes v.roots target

-- what is touched among the ids that pass: each has its inputs among them
abbrev pub touch_among : (ℕ → Bool) → (ℕ → Bool) → (ℕ → Bool) → (ℕ → List ℕ) → (ℕ → List (NodeId × ℕ)) → ℕ → ℕ
touch_among test moved differing inputs uses n = touch (λ j. moved j && test j) (λ j. differing j && test j) (λ j. cond (test j) (inputs j) []) (λ j. chosen test (uses j)) n

-- from the steps before to those after are at most four times what is touched of what the target stands on,
-- which are the ids that pass
abbrev pub IsWithinBelow : Graph → ℕ → (ℕ → Input) → (ℕ → Input) → (ℕ → Bool) → (ℕ → List (NodeId × ℕ)) → ℕ → ℕ → Type 0
IsWithinBelow g target before free moved uses base steps =
    (o : ℕ → Outcome) → IsMeaning g free o → (test : ℕ → Bool) → ((j : ℕ) → StandsOn g.inputs target j → test j ≡ true)
    → steps ≤ base + 4 * touch_among test moved (λ j. differs (o j) (before j)) g.inputs uses g.size

-- what a trial tells of a target: the difference of two fresh evaluations, or why there is none, within these steps
pub record Tells (g : Graph) (uses : ℕ → List (NodeId × ℕ)) (before : ℕ → Input) (ms : List (VarId × ℤ)) (target : ℕ) (result : Result ℤ TrialFault) (base steps : ℕ) : Type 0 where
  pub difference : IfOk result (λ d. IsDifference g before (moved_to ms before) target d)
  pub fault : IfErr result (λ stop. IsRefusal g before (moved_to ms before) target stop)
  pub steps_in_all : IsWithin g before (moved_to ms before) (is_moved ms) uses base steps
  pub steps_below : IsWithinBelow g target before (moved_to ms before) (is_moved ms) uses base steps

-- the same with a difference that doesn't fit told apart
pub record TellsApart (g : Graph) (uses : ℕ → List (NodeId × ℕ)) (before : ℕ → Input) (ms : List (VarId × ℤ)) (target : ℕ) (result : Result ℤ DifferenceFault) (base steps : ℕ) : Type 0 where
  pub difference : IfOk result (λ d. IsDifference g before (moved_to ms before) target d)
  pub fault : IfErr result (λ stop. IsStopped g before (moved_to ms before) target stop)
  pub steps_in_all : IsWithin g before (moved_to ms before) (is_moved ms) uses base steps
  pub steps_below : IsWithinBelow g target before (moved_to ms before) (is_moved ms) uses base steps
