-- What a trial has come to so far, as its maps tell it.
use Rattle.std.specs.Prelude.{◌≡◌, ℕ, ◌-◌, cond, nat_le, nat_lt, List, [], ◌∷◌, map, slice_get, slice_index_or, Option, Some, None}
use Rattle.std.specs.BTreeMap.{BTreeMap, get}
use Rattle.std.specs.Ordering.{nat_cmp}
use Rattle.cbl_base.specs.Changes.{after_changes}
use Rattle.cbl_base.specs.NodeLaw.{Rule}
use Rattle.cbl_base.specs.declared.ids.NodeId.{NodeId}
use Rattle.cbl_base.specs.declared.input.Input.{Input}
use Rattle.cbl_base.specs.declared.input.Change.{Change}
use Rattle.cbl_base.specs.declared.faults.RunFault.{RunFault}
use Rattle.store_turns.specs.declared.frame.Frame.{Frame}
use Rattle.store_turns.specs.declared.outcome.Outcome.{Outcome}
use Rattle.store_turns.specs.declared.outcome.Outcome.TheVariants.{Value, Fails, Missing}
use Rattle.store_turns.specs.Meaning.{outcome_of, rule_value, inputs_in}
use Rattle.store_turns.specs.Telling.{places_in}
use Rattle.store_turns.specs.Waits.{waits}
use Rattle.store_build.specs.Frames.{cell_of}
use Rattle.inc_store.specs.declared.changed.NodeChange.{NodeChange}
use Rattle.trial.specs.declared.overlay.Overlay.{Overlay}

-- nothing waits, and nothing is another
abbrev pub IsEmpty : Overlay → Type 0
IsEmpty v =
    ((l i : ℕ) → waits v.waiting l i ≡ None)
    × ((j : ℕ) → get nat_cmp v.lost j ≡ None)
    × ((j : ℕ) → get nat_cmp v.changes j ≡ None)
    × ((j : ℕ) → get nat_cmp v.roots j ≡ None)

-- the new value, where there is one
abbrev pub new_or : Option NodeChange → Input → Input
new_or None x = x
new_or (Some c) x = c.new

-- the least failing id on which a lost id stands: itself, where the fault is its own
abbrev pub root_by : ℕ → Option (Option RunFault) → Option (ℕ × RunFault) → Option (ℕ × RunFault)
root_by j None below = None
root_by j (Some (Some fault)) below = Some (j, fault)
root_by j (Some None) below = below

abbrev pub root_in : BTreeMap ℕ (Option RunFault) → BTreeMap ℕ (ℕ × RunFault) → ℕ → Option (ℕ × RunFault)
root_in lost roots j = root_by j (get nat_cmp lost j) (get nat_cmp roots j)

-- the steps of the look at what is noted of an id that has come to this outcome
abbrev pub root_steps : Outcome → ℕ
root_steps (Value x) = 0
root_steps (Fails fault) = 0
root_steps Missing = 1

-- the lesser of two, and what is noted where an id is used at these places
abbrev pub lesser : Option (ℕ × RunFault) → Option (ℕ × RunFault) → Option (ℕ × RunFault)
lesser None b = b
lesser (Some a) None = Some a
lesser (Some a) (Some b) = Some (cond (nat_le a.0 b.0) a b)

abbrev pub noted : List ℕ → Option (ℕ × RunFault) → Option (ℕ × RunFault) → Option (ℕ × RunFault)
noted [] root r = r
noted (p ∷ ps) root r = lesser root r

-- each id that uses another at a place is noted to stand on this root
abbrev pub AreNoted : List (NodeId × ℕ) → Option (ℕ × RunFault) → BTreeMap ℕ (ℕ × RunFault) → BTreeMap ℕ (ℕ × RunFault) → Type 0
AreNoted uses root old new = (j : ℕ) → get nat_cmp new j ≡ noted (places_in j uses) root (get nat_cmp old j)

-- what an id comes to by what waited for it: a cell has the value of the one id in its list, and a node
-- is asked for its value after the changes
abbrev pub asked : List Rule → Frame → List Input → Overlay → ℕ → Option (List Change) → Outcome
asked rules frame cells v id None = Missing
asked rules frame cells v id (Some cs) =
    cond (nat_lt id frame.first) (Value (new_or (get nat_cmp v.changes (slice_index_or (inputs_in frame id) 0 0)) (cell_of cells id)))
    (outcome_of (rule_value (slice_get rules (id - frame.first)) (after_changes (map (cell_of cells) (inputs_in frame id)) cs)))
