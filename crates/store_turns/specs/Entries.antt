-- The nodes that wait in a list, in no order.
use Rattle.std.specs.Prelude.{◌≡◌, ◌⊎◌, ℕ, ◌<◌, ◌≤◌, Bool, true, false, not, ◌||◌, ◌&&◌, slice_index_or, List, [], ◌∷◌, ◌++◌, Option, Some, None, IsSome}
use Rattle.std.specs.Ordering.{nat_cmp, ordering_then}
use Rattle.std.specs.declared.cmp.Ordering.{Ordering}
use Rattle.std.specs.BTreeMap.{is_at}
use Rattle.std.specs.Map.{lookup}
use Rattle.cbl_base.specs.declared.input.Change.{Change}
use Rattle.store_turns.specs.declared.waiting.Turn.{Turn}
use Rattle.store_turns.specs.declared.waiting.Pending.{Pending}
use Rattle.store_turns.specs.declared.waiting.Pending.TheVariants.{Changed, Below}

-- nothing; changes; or, with no list, that an input has no value
abbrev pub Wait : Type 0
Wait = Option (Option (List Change))

-- by layer, and then by id
abbrev pub turn_cmp : Turn → Turn → Ordering
turn_cmp a b = ordering_then (nat_cmp a.layer b.layer) (nat_cmp a.id b.id)

-- a turn is before another, or the same
abbrev pub NotAfter : Turn → Turn → Type 0
NotAfter t u = (t.layer < u.layer) ⊎ ((t.layer ≡ u.layer) × (t.id ≤ u.id))

abbrev pub IsBefore : Turn → Turn → Type 0
IsBefore t u = (t.layer < u.layer) ⊎ ((t.layer ≡ u.layer) × (t.id < u.id))

abbrev pub changes_of : Pending → Option (List Change)
changes_of (Changed cs) = Some cs.items
changes_of Below = None

-- with one more change
abbrev pub and_change : Change → Wait → Option (List Change)
and_change c None = Some (c ∷ [])
and_change c (Some None) = None
and_change c (Some (Some cs)) = Some (cs ++ c ∷ [])

-- what is found in a list for a turn
abbrev pub look : Turn → List (Turn × Pending) → Option Pending
look t es = lookup (is_at (turn_cmp t)) es

-- whether a turn stands in a list, and whether each stands there once
abbrev pub stands_in : Turn → List (Turn × Pending) → Bool
stands_in t [] = false
stands_in t (e ∷ es) = is_at (turn_cmp t) e.0 || stands_in t es

abbrev pub are_distinct : List (Turn × Pending) → Bool
are_distinct [] = true
are_distinct (e ∷ es) = not (stands_in e.0 es) && are_distinct es

-- the turn at a place of a list, and what waits there
abbrev pub turn_at : List (Turn × Pending) → ℕ → Turn
turn_at es place = (slice_index_or es place (record { layer = 0; id = 0 }, Below)).0

abbrev pub pending_at : List (Turn × Pending) → ℕ → Pending
pending_at es place = (slice_index_or es place (record { layer = 0; id = 0 }, Below)).1

-- none in a list is before this turn
abbrev pub IsLeast : Turn → List (Turn × Pending) → Type 0
IsLeast t es = (u : Turn) → IsSome (look u es) → NotAfter t u

-- one list for another: it has the same at each turn but this
abbrev pub SameBut : Turn → List (Turn × Pending) → List (Turn × Pending) → Type 0
SameBut t old new = (u : Turn) → is_at (turn_cmp u) t ≡ false → look u new ≡ look u old

-- it has this at this turn, and the same at each other
abbrev pub Puts : Turn → Option Pending → List (Turn × Pending) → List (Turn × Pending) → Type 0
Puts t p old new = (look t new ≡ p) × SameBut t old new
