-- What holds between the turns of a commit, over the lists of a store.
use Rattle.std.specs.Prelude.{◌⊎◌, ◌≡◌, ◌≢◌, ℕ, ◌+◌, ◌-◌, ◌*◌, ◌<◌, ◌≤◌, Bool, true, false, cond, nat_lt, List, [], length, map, slice_set, slice_get, slice_index_or, Option, Some, None}
use Rattle.std.specs.BTreeMap.{BTreeMap, get}
use Rattle.std.specs.Ordering.{nat_cmp}
use Rattle.cbl_base.specs.Inputs.{InputKind, kind_of}
use Rattle.cbl_base.specs.NodeLaw.{Rule}
use Rattle.cbl_base.specs.Changes.{after_changes}
use Rattle.cbl_base.specs.declared.input.Input.{Input}
use Rattle.cbl_base.specs.declared.input.Change.{Change}
use Rattle.cbl_base.specs.declared.faults.RunFault.{RunFault}
use Rattle.store_turns.specs.declared.frame.Frame.{Frame}
use Rattle.store_turns.specs.declared.outcome.Outcome.{Outcome}
use Rattle.store_turns.specs.declared.outcome.Outcome.TheVariants.{Value, Fails, Missing}
use Rattle.store_turns.specs.Meaning.{computed, outcome_of, rule_value, graph_of, inputs_in, layer_of, uses_in, values_of}
use Rattle.store_turns.specs.Waits.{waits}
use Rattle.store_turns.specs.Touch.{differs, sum_below, cost, touch, touched}
use Rattle.store_turns.specs.Turns.{rank, InTurn}
use Rattle.store_build.specs.Frames.{cell_of, held_of}
use Rattle.inc_store.specs.declared.changed.NodeChange.{NodeChange}
use Rattle.inc_store.specs.declared.course.Course.{Course}

-- the cells after an id came to an outcome
abbrev pub with_outcome : List Input → ℕ → Outcome → List Input
with_outcome cells id (Value x) = slice_set cells id x
with_outcome cells id (Fails f) = cells
with_outcome cells id Missing = cells

-- what is kept of an outcome that is no value: the fault, where it is its own
abbrev pub lost_by : Outcome → Option (Option RunFault)
lost_by (Value x) = None
lost_by (Fails f) = Some (Some f)
lost_by Missing = Some None

-- an id's value was the old one, and is the new one
abbrev pub changed_at : ℕ → Input → Input → NodeChange
changed_at id old new = record { node = record { 0 = id }; old = old; new = new }

-- what is kept of a change: that of a value that is another
abbrev pub change_of : ℕ → Outcome → Input → Option NodeChange → Option NodeChange
change_of id (Value x) old before = cond (differs (Value x) old) (Some (changed_at id old x)) before
change_of id (Fails f) old before = before
change_of id Missing old before = before

-- in the new map this stands at the id, and at all others what stood there in the old one
pub record IsPut {V : Type 0} (id : ℕ) (what : Option V) (old new : BTreeMap ℕ V) : Type 0 where
  pub here : get nat_cmp new id ≡ what
  pub elsewhere : (j : ℕ) → j ≢ id → get nat_cmp new j ≡ get nat_cmp old j

-- so an outcome of an id whose value is this is kept, where it is no value, and where it is another value
abbrev pub KeepsLost : ℕ → Outcome → BTreeMap ℕ (Option RunFault) → BTreeMap ℕ (Option RunFault) → Type 0
KeepsLost id outcome old new = IsPut id (lost_by outcome) old new

abbrev pub KeepsChange : ℕ → Outcome → Input → BTreeMap ℕ NodeChange → BTreeMap ℕ NodeChange → Type 0
KeepsChange id outcome value old new = IsPut id (change_of id outcome value (get nat_cmp old id)) old new

-- what an id comes to by what waited for it; a cell has the value of the one id in its list
abbrev pub turn_outcome : List Rule → List (List Input) → Frame → List Input → ℕ → Option (List Change) → Outcome
turn_outcome rules helds frame cells id None = Missing
turn_outcome rules helds frame cells id (Some cs) =
    cond (nat_lt id frame.first) (Value (cell_of cells (slice_index_or (inputs_in frame id) 0 0)))
    (outcome_of (rule_value (slice_get rules (id - frame.first)) (after_changes (slice_index_or helds (id - frame.first) []) cs)))

-- what the nodes hold then
abbrev pub helds_after : Frame → ℕ → Option (List Change) → List (List Input) → List (List Input)
helds_after frame id None helds = helds
helds_after frame id (Some cs) helds = cond (nat_lt id frame.first) helds (slice_set helds (id - frame.first) (after_changes (slice_index_or helds (id - frame.first) []) cs))

-- what an id came to: the value in its cell, but where it is lost
abbrev pub lost_or : Option (Option RunFault) → Input → Outcome
lost_or None x = Value x
lost_or (Some (Some f)) x = Fails f
lost_or (Some None) x = Missing

abbrev pub outcome_now : BTreeMap ℕ (Option RunFault) → List Input → ℕ → Outcome
outcome_now lost cells id = lost_or (get nat_cmp lost id) (cell_of cells id)

-- what a commit is measured by: the kinds, the values before, which ids are moved, the free cells'
-- values after, what all come to then, and the steps before
pub record Trace : Type 0 where
  pub kinds : ℕ → InputKind
  pub before : ℕ → Input
  pub moved : ℕ → Bool
  pub target : ℕ → Input
  pub base : ℕ

-- the change of an id between two states, if its value is another
abbrev pub changed_from : (ℕ → Input) → (ℕ → Input) → ℕ → Option NodeChange
changed_from before after j = cond (differs (Value (after j)) (before j)) (Some (changed_at j (before j) (after j))) None

-- the same with what a commit's moves are made in
pub record Given : Type 0 where
  pub rules : List Rule
  pub helds : List (List Input)
  pub trace : Trace

-- whose turn is not yet over
abbrev pub NotBefore : ℕ → (ℕ → ℕ) → ℕ → Type 0
NotBefore front layer id = front ≤ rank layer id

-- all that is above layer 0
abbrev pub first_front : ℕ
first_front = 4294967296

abbrev pub differing : BTreeMap ℕ (Option RunFault) → List Input → (ℕ → Input) → ℕ → Bool
differing lost cells before j = differs (outcome_now lost cells j) (before j)

-- between two turns: what is later has had none
pub record InCourse (rules : List Rule) (helds : List (List Input)) (frame : Frame) (trace : Trace) (cells : List Input) (course : Course) (Later : ℕ → Type 0) (steps : ℕ) : Type 0 where
  pub turns : InTurn (graph_of rules frame) (layer_of frame) (cell_of cells) Later (λ _. Unit {0}) (outcome_now course.lost cells) (held_of helds cells frame) (waits course.waiting)
  pub many_cells : length cells ≡ length frame.inputs.items
  pub many_helds : length helds ≡ length rules
  pub kinded : (j : ℕ) → j < length frame.inputs.items → kind_of (cell_of cells j) ≡ trace.kinds j
  pub frees : (j : ℕ) → j < length frame.inputs.items → (graph_of rules frame).is_free j ≡ true → Later j ⊎ (cell_of cells j ≡ trace.target j)
  pub found : (j : ℕ) → j < length frame.inputs.items → (graph_of rules frame).is_free j ≡ true → get nat_cmp course.lost j ≡ None
  pub changes : (j : ℕ) → j < length frame.inputs.items → get nat_cmp course.changes j ≡ changed_from trace.before (cell_of cells) j
  pub no_changes : (j : ℕ) → length frame.inputs.items ≤ j → get nat_cmp course.changes j ≡ None
  pub no_lost : (j : ℕ) → length frame.inputs.items ≤ j → get nat_cmp course.lost j ≡ None
  pub paid : steps + sum_below (λ j. cost (waits course.waiting (layer_of frame j) j)) (length frame.inputs.items)
      ≤ trace.base + 4 * touch trace.moved (differing course.lost cells trace.before) (inputs_in frame) (uses_in frame) (length frame.inputs.items)
  pub same : (j : ℕ) → j < length frame.inputs.items → Later j → differing course.lost cells trace.before j ≡ false
  pub calm : (j : ℕ) → j < length frame.inputs.items → NotBefore first_front (layer_of frame) j → Later j → waits course.waiting (layer_of frame j) j ≡ None
      → touched trace.moved (differing course.lost cells trace.before) (inputs_in frame) j ≡ false

-- nothing waits any more
pub record IsOver (rules : List Rule) (helds : List (List Input)) (frame : Frame) (trace : Trace) (cells : List Input) (course : Course) (steps : ℕ) : Type 0 where
  pub nodes : (j : ℕ) → j < length frame.inputs.items → (graph_of rules frame).is_free j ≡ false → outcome_now course.lost cells j ≡ computed (graph_of rules frame) (outcome_now course.lost cells) j
  pub holds : (j : ℕ) (x : Input) → j < length frame.inputs.items → (graph_of rules frame).is_free j ≡ false → outcome_now course.lost cells j ≡ Value x
      → values_of (map (outcome_now course.lost cells) (inputs_in frame j)) ≡ Some (held_of helds cells frame j)
  pub many_cells : length cells ≡ length frame.inputs.items
  pub many_helds : length helds ≡ length rules
  pub kinded : (j : ℕ) → j < length frame.inputs.items → kind_of (cell_of cells j) ≡ trace.kinds j
  pub frees : (j : ℕ) → j < length frame.inputs.items → (graph_of rules frame).is_free j ≡ true → cell_of cells j ≡ trace.target j
  pub found : (j : ℕ) → j < length frame.inputs.items → (graph_of rules frame).is_free j ≡ true → get nat_cmp course.lost j ≡ None
  pub changes : (j : ℕ) → j < length frame.inputs.items → get nat_cmp course.changes j ≡ changed_from trace.before (cell_of cells) j
  pub no_changes : (j : ℕ) → length frame.inputs.items ≤ j → get nat_cmp course.changes j ≡ None
  pub no_lost : (j : ℕ) → length frame.inputs.items ≤ j → get nat_cmp course.lost j ≡ None
  pub bound : steps ≤ trace.base + 4 * touch trace.moved (differing course.lost cells trace.before) (inputs_in frame) (uses_in frame) (length frame.inputs.items)
