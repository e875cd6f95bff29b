-- What waits for a node of a layer: changes of its inputs, or that one of these has no value.
pub use Rattle.store_turns.specs.Entries.{Wait, turn_cmp, NotAfter, IsBefore, changes_of, and_change, look, turn_at, IsLeast}
pub use Rattle.store_turns.specs.Listed.{listed, behind, turn_in}
use Rattle.std.specs.Prelude.{◌≡◌, ◌≢◌, ℕ, cond, false, List, IsSome, Option, Some, None}
use Rattle.std.specs.Option.{option_map}
use Rattle.std.specs.BTreeMap.{get, is_at}
use Rattle.cbl_base.specs.declared.input.Change.{Change}
use Rattle.store_turns.specs.declared.waiting.Waiting.{Waiting}
use Rattle.store_turns.specs.declared.waiting.Turn.{Turn}
use Rattle.store_turns.specs.declared.waiting.Pending.{Pending}

-- the first, and where it is nothing the second
abbrev pub or_later : Option Pending → Option Pending → Option Pending
or_later None later = later
or_later (Some p) later = Some p

-- what the map has for a turn
abbrev pub far_at : Waiting → Turn → Option Pending
far_at w turn = get turn_cmp w.far turn

-- what waits for an id of a layer
abbrev pub waits : Waiting → ℕ → ℕ → Wait
waits w layer id = option_map changes_of (or_later (look (record { layer = layer; id = id }) (listed w.near)) (far_at w (record { layer = layer; id = id })))

abbrev pub NothingWaits : Waiting → Type 0
NothingWaits w = (l i : ℕ) → waits w l i ≡ None

-- the same but at this layer and id
abbrev pub SameElsewhere : (ℕ → ℕ → Wait) → (ℕ → ℕ → Wait) → ℕ → ℕ → Type 0
SameElsewhere v u layer id = (l i : ℕ) → (l ≡ layer → i ≢ id) → v l i ≡ u l i

-- the changes that waited for what was taken last, or that an input of it has no value
abbrev pub taken_of : Waiting → Option (List Change)
taken_of w = cond w.is_far (changes_of w.out) (changes_of (behind w.near))

-- in the new one this waits for the turn, whatever waited for it in the old one, and all else waits as it did
pub record WaitsFor (turn : Turn) (what : Wait) (old new : Waiting) : Type 0 where
  pub here : waits new turn.layer turn.id ≡ what
  pub elsewhere : SameElsewhere (waits new) (waits old) turn.layer turn.id

-- so it is with one more change for the turn
abbrev pub Gets : Turn → Change → Waiting → Waiting → Type 0
Gets turn change old new = WaitsFor turn (Some (and_change change (waits old turn.layer turn.id))) old new

-- the turn was the first of all that waited, and what waited for it is taken; nothing waits for it in the new
-- one, and all else waits as it did
pub record IsTaken (turn : Turn) (old new : Waiting) : Type 0 where
  pub taken : waits old turn.layer turn.id ≡ Some (taken_of new)
  pub least : (l i : ℕ) → IsSome (waits old l i) → NotAfter turn (record { layer = l; id = i })
  pub here : waits new turn.layer turn.id ≡ None
  pub elsewhere : SameElsewhere (waits new) (waits old) turn.layer turn.id

-- this waits for the turn in a map, and none that waits there is before it; and it waits no more, where all else
-- is the same
abbrev pub IsFarFirst : (Turn → Option Pending) → (Turn → Option Pending) → Turn → Option (List Change) → Type 0
IsFarFirst old new t cs =
    (option_map changes_of (old t) ≡ Some cs) × ((u : Turn) → IsSome (old u) → NotAfter t u)
    × (new t ≡ None) × ((u : Turn) → is_at (turn_cmp t) u ≡ false → new u ≡ old u)
