-- What a port does with the rest of a journal that it replays. A rule of this project.
use Rattle.std.specs.Prelude.{◌≡◌, ◌≢◌, ℕ, Option, None, Some, List, [], ◌∷◌, ◌++◌, length, map, drop, slice_get}
use Rattle.best_turn.specs.Seated.{TableId}
use Rattle.best_turn.specs.declared.replays.Entry.{Entry}
use Rattle.best_turn.specs.declared.view.View.{View}
use Rattle.best_turn.specs.Calls.{entry}
use Rattle.best_monitor.specs.declared.port.PortStop.{PortStop}
use Rattle.best_monitor.specs.declared.port.PortStop.TheVariants.{NoMemory, Differs}

-- What a port over a seat keeps, whatever is asked through it: the seat's turn, the state that it began with,
-- the iteration, the numbers that the seat may still give, and those that it held when the port was opened, with
-- what had been made under each.
pub record SeatBase (S Q R : Type 0) : Type 0 where
  pub turn : TableId
  pub start : Option S
  pub iteration : ℕ
  pub rest : ℕ
  pub made : List (ℕ × List (Entry Q R))

-- What a port over an iteration's entries in a journal keeps: the line of the loop, the iteration, and the entries,
-- each with its line.
pub record JournalBase (Q R : Type 0) : Type 0 where
  pub line : ℕ
  pub iteration : ℕ
  pub whole : List (ℕ × Entry Q R)

-- what a port keeps, whatever is asked through it
pub data Base (S Q R : Type 0) : Type 0 where
  OverSeat : SeatBase S Q R → Base S Q R
  OverJournal : JournalBase Q R → Base S Q R

-- a line of a journal, and two texts
abbrev pub Odds : Type 0
Odds = ℕ × List ℕ × List ℕ

module _ {Q R : Type 0} where
  -- a request was replied to: where a rest is told, it began with this request and reply, and goes on behind them
  abbrev pub GoesOn : Option (List (Q × R)) → Q → R → Option (List (Q × R)) → Type 0
  GoesOn None q r after = after ≡ None
  GoesOn (Some []) q r after = ⊥
  GoesOn (Some (e ∷ es)) q r after = (e.0 ≡ q) × (e.1 ≡ r) × (after ≡ Some es)

  -- a rest is told, and is empty or begins with another request
  abbrev pub GoesAstray : Option (List (Q × R)) → Q → Type 0
  GoesAstray None q = ⊥
  GoesAstray (Some []) q = Unit {0}
  GoesAstray (Some (e ∷ es)) q = e.0 ≢ q

  -- a port differs only where its rest goes astray, and then by the odds of the request
  abbrev pub StopsAsTold : Option (List (Q × R)) → Q → Odds → PortStop → Type 0
  StopsAsTold rest q odds NoMemory = Unit {0}
  StopsAsTold rest q odds (Differs line asked had) = GoesAstray rest q × (odds ≡ (line, asked, had))

  -- this holds of each request and reply of a rest, if one is told
  abbrev pub HoldsAll : (Q → R → Type 0) → Option (List (Q × R)) → Type 0
  HoldsAll P None = Unit {0}
  HoldsAll P (Some rest) = (i : ℕ) (e : Q × R) → slice_get rest i ≡ Some e → P e.0 e.1

  -- an iteration's entries for these requests and replies
  abbrev pub entries_for : ℕ → List (Q × R) → List (Entry Q R)
  entries_for k asked = map (λ x. entry k x.0 x.1) asked

  -- the first number made these entries too, behind all its others
  abbrev pub with_all : List (Entry Q R) → List (ℕ × List (Entry Q R)) → List (ℕ × List (Entry Q R))
  with_all es [] = []
  with_all es (m ∷ ms) = (m.0, m.1 ++ es) ∷ ms

  -- what the first number made
  abbrev pub own_entries : List (ℕ × List (Entry Q R)) → List (Entry Q R)
  own_entries [] = []
  own_entries (m ∷ ms) = m.1

  -- what was asked under the first number since these were made
  abbrev pub asked_since : List (ℕ × List (Entry Q R)) → List (ℕ × List (Entry Q R)) → List (Q × R)
  asked_since before now = map (λ e. (e.request, e.reply)) (drop (length (own_entries before)) (own_entries now))

  -- what a port keeps that was opened over this seat, for this iteration
  abbrev pub base_of : {S : Type 0} → TableId × View S Q R → ℕ → SeatBase S Q R
  base_of seat k = record { turn = seat.0; start = seat.1.start; iteration = k; rest = seat.1.rest; made = seat.1.made }

  -- The seat was this one, and then was asked only in the name of iteration k: it made its entries under its own
  -- number, in order, behind all that it had made before, and nothing else. What else it knows but the history
  -- that it saw is as before.
  pub record MadeSince {S : Type 0} (k : ℕ) (before now : TableId × View S Q R) : Type 0 where
    pub turn : now.0 ≡ before.0
    pub start : now.1.start ≡ before.1.start
    pub rest : now.1.rest ≡ before.1.rest
    pub made : now.1.made ≡ with_all (entries_for k (asked_since before.1.made now.1.made)) before.1.made
