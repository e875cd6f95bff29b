-- What waits in the short list.
use Rattle.std.specs.Prelude.{◌≡◌, ℕ, List, take, Some}
use Rattle.std.specs.Option.{option_map}
use Rattle.cbl_base.specs.declared.input.Change.{Change}
use Rattle.store_turns.specs.declared.short_list.ShortList.{ShortList}
use Rattle.store_turns.specs.declared.waiting.Turn.{Turn}
use Rattle.store_turns.specs.declared.waiting.Pending.{Pending}
use Rattle.store_turns.specs.Entries.{Wait, changes_of, and_change, look, turn_at, pending_at, SameBut}

-- the entries that wait, and what stands behind them
abbrev pub listed : ShortList → List (Turn × Pending)
listed list = take list.live list.entries.items

abbrev pub behind : ShortList → Pending
behind list = pending_at list.entries.items list.live

-- the turn at a place, and what waits there with one more change
abbrev pub turn_in : ShortList → ℕ → Turn
turn_in list place = turn_at (listed list) place

abbrev pub more_at : ShortList → ℕ → Change → Wait
more_at list place change = Some (and_change change (Some (changes_of (pending_at (listed list) place))))

-- what waits at a place is what is found for its turn
abbrev pub IsFoundAt : ShortList → ℕ → Type 0
IsFoundAt list place = look (turn_in list place) (listed list) ≡ Some (pending_at (listed list) place)

-- in the new list this waits for the turn, whatever waited for it in the old one, and all else waits as it did
pub record ListedFor (turn : Turn) (what : Wait) (old new : ShortList) : Type 0 where
  pub here : option_map changes_of (look turn (listed new)) ≡ what
  pub elsewhere : SameBut turn (listed old) (listed new)

-- so it is with one more change for the turn at a place
abbrev pub GetsAt : ℕ → Change → ShortList → ShortList → Type 0
GetsAt place change old new = ListedFor (turn_in old place) (more_at old place change) old new
