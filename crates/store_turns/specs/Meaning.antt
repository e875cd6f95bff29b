-- What nodes come to, from scratch: each its operation's value of its inputs' values, or a fault, or
-- nothing where an input has no value. A rule of this project.
use Rattle.std.specs.Prelude.{◌≡◌, ℕ, zero, suc, ◌-◌, ◌<◌, Bool, true, false, cond, ◌&&◌, nat_lt, List, [], ◌∷◌, map, length, slice_get, slice_index_or, Option, Some, None, Result, Ok, Err, Vec}
use Rattle.cbl_base.specs.NodeLaw.{Rule}
use Rattle.cbl_base.specs.declared.ids.NodeId.{NodeId}
use Rattle.cbl_base.specs.declared.input.Input.{Input}
use Rattle.cbl_base.specs.declared.faults.RunFault.{RunFault}
use Rattle.cbl_base.specs.declared.faults.RunFault.TheVariants.{NotClosed}
use Rattle.store_turns.specs.declared.frame.Frame.{Frame}
use Rattle.store_turns.specs.declared.outcome.Outcome.{Outcome}
use Rattle.store_turns.specs.declared.outcome.Outcome.TheVariants.{Value, Fails, Missing}

-- the values, where all are values
abbrev pub with_value : Outcome → Option (List Input) → Option (List Input)
with_value (Value x) (Some xs) = Some (x ∷ xs)
with_value (Value x) None = None
with_value (Fails f) xs = None
with_value Missing xs = None

abbrev pub values_of : List Outcome → Option (List Input)
values_of [] = Some []
values_of (o ∷ os) = with_value o (values_of os)

-- what an operation comes to over its inputs' values, where all have one
abbrev pub outcome_of : Result Input RunFault → Outcome
outcome_of (Ok x) = Value x
outcome_of (Err f) = Fails f

abbrev pub come_to : (List Input → Result Input RunFault) → Option (List Input) → Outcome
come_to op None = Missing
come_to op (Some xs) = outcome_of (op xs)

-- cells and nodes by id: how many, the inputs, whether it is a free cell, the operation
pub record Graph : Type 0 where
  pub size : ℕ
  pub inputs : ℕ → List ℕ
  pub is_free : ℕ → Bool
  pub op : ℕ → List Input → Result Input RunFault

-- what an id's operation gives of what its inputs came to
abbrev pub computed : Graph → (ℕ → Outcome) → ℕ → Outcome
computed g o id = come_to (g.op id) (values_of (map o (g.inputs id)))

-- so the ids come out, where the free cells hold these values
pub record IsMeaning (g : Graph) (free : ℕ → Input) (o : ℕ → Outcome) : Type 0 where
  pub cells : (id : ℕ) → id < g.size → g.is_free id ≡ true → o id ≡ Value (free id)
  pub nodes : (id : ℕ) → id < g.size → g.is_free id ≡ false → o id ≡ computed g o id

-- the same as a recursion, as deep as the id's layer
abbrev pub outcome_at : Graph → (ℕ → Input) → ℕ → ℕ → Outcome
outcome_at g free zero id = Missing
outcome_at g free (suc depth) id = cond (g.is_free id) (Value (free id)) (come_to (g.op id) (values_of (map (outcome_at g free depth) (g.inputs id))))

-- each in the list
abbrev pub Each : (ℕ → Type 0) → List ℕ → Type 0
Each P [] = Unit {0}
Each P (x ∷ xs) = P x × Each P xs

-- each input is there, and in a lower layer
abbrev pub AreLayers : Graph → (ℕ → ℕ) → Type 0
AreLayers g layer = (id : ℕ) → id < g.size → Each (λ i. (i < g.size) × (layer i < layer id)) (g.inputs id)

-- ---- the graph of a frame, whose nodes have these rules
abbrev pub ids_of : List NodeId → List ℕ
ids_of ids = map (λ id. id.0) ids

abbrev pub lists_of : {A Z : Type 0} → List (Vec A Z) → List (List A)
lists_of vs = map (λ v. v.items) vs

abbrev pub rule_value : Option Rule → List Input → Result Input RunFault
rule_value (Some r) xs = r.value xs
rule_value None xs = Err NotClosed

-- a defined variable has the value of the one node in its list
abbrev pub the_one : List Input → Result Input RunFault
the_one [] = Err NotClosed
the_one (x ∷ xs) = Ok x

abbrev pub is_empty : {A : Type 0} → List A → Bool
is_empty [] = true
is_empty (x ∷ xs) = false

abbrev pub inputs_in : Frame → ℕ → List ℕ
inputs_in frame id = ids_of (slice_index_or (lists_of frame.inputs.items) id [])

abbrev pub layer_of : Frame → ℕ → ℕ
layer_of frame id = slice_index_or frame.layers.items id 0

abbrev pub uses_in : Frame → ℕ → List (NodeId × ℕ)
uses_in frame id = slice_index_or (lists_of frame.uses.items) id []

-- a cell without inputs is free
abbrev pub graph_of : List Rule → Frame → Graph
graph_of rules frame = record {
  size = length frame.inputs.items;
  inputs = inputs_in frame;
  is_free = λ id. nat_lt id frame.first && is_empty (inputs_in frame id);
  op = λ id xs. cond (nat_lt id frame.first) (the_one xs) (rule_value (slice_get rules (id - frame.first)) xs);
}
