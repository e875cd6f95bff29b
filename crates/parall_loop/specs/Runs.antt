-- What the workers of a loop did: the runs of iterations, in the order in which a worker made them.
use Rattle.std.specs.Prelude.{◌≡◌, ℕ, ◌+◌, ◌<◌, true, Option, None, Some, List, [], ◌∷◌, ◌++◌, map, length, set}
use Rattle.std.specs.List.{AllByRecursion}
use Rattle.best_turn.specs.Seated.{TableId}
use Rattle.best_turn.specs.declared.replays.Entry.{Entry}
use Rattle.best_turn.specs.declared.view.View.{View}
use Rattle.best_turn.specs.Seats as turns
use Rattle.best_monitor.specs.declared.port.PortStop.{PortStop}
use Rattle.best_monitor.specs.Port.{entries_for}
use Rattle.iter_claim.specs.declared.claims.Claims.{Claims}
use Rattle.iter_claim.specs.declared.claims.ClaimSeat.{ClaimSeat}
use Rattle.iter_claim.specs.Numbers.{AllLess}
use Rattle.iter_claim.specs.Seats as drawing
use Rattle.parall_loop.specs.Iteration.{Next, RunsOnSeat}

-- one iteration that was run: what it asked, with the replies, and its outcome
pub record Run (Q R T : Type 0) : Type 0 where
  pub number : ℕ
  pub asked : List (Q × R)
  pub outcome : T

-- each number is greater than all before it
abbrev pub IsRising : List ℕ → Type 0
IsRising [] = Unit {0}
IsRising (x ∷ xs) = AllByRecursion (λ y. x < y) xs × IsRising xs

-- the places of outcomes, once these were put into theirs
abbrev pub put_into : {T : Type 0} → List (Option T) → List (ℕ × T) → List (Option T)
put_into places [] = places
put_into places (x ∷ xs) = put_into (set places x.0 (Some x.1)) xs

-- what stands in the places, in order
abbrev pub filled : {T : Type 0} → List (Option T) → List T
filled [] = []
filled (None ∷ places) = filled places
filled (Some outcome ∷ places) = outcome ∷ filled places

module _ {S Q R : Type 0} where
  -- the seats of a worker that ran nothing yet
  pub record IsFresh (turn : TableId × S) (count : Claims) (seat : TableId × View S Q R) (claimer : ClaimSeat) : Type 0 where
    pub number : ℕ
    pub own : turns.IsSeatOf turn seat
    pub made : seat.1.made ≡ (number, []) ∷ []
    pub rest : seat.1.rest ≡ 0
    pub claims : drawing.IsSeatOf count claimer
    pub seats : drawing.seats_from claimer ≡ 1
    pub drawn : drawing.drawn_by claimer ≡ []

  -- the seats of a loop, from which so many workers were split
  pub record HasSplit (turn : TableId × S) (count : Claims) (workers : ℕ) (seat : TableId × View S Q R) (claimer : ClaimSeat) : Type 0 where
    pub number : ℕ
    pub own : turns.IsSeatOf turn seat
    pub made : seat.1.made ≡ (number, []) ∷ []
    pub rest : seat.1.rest + workers ≡ 4294967296
    pub claims : drawing.IsSeatOf count claimer
    pub seats : drawing.seats_from claimer + workers ≡ drawing.all_seats
    pub drawn : drawing.drawn_by claimer ≡ []

module _ {Q R T : Type 0} where
  abbrev pub numbers_of : List (Run Q R T) → List ℕ
  numbers_of runs = map (λ r. r.number) runs

  -- the outcomes, each with its iteration
  abbrev pub outcomes_of : List (Run Q R T) → List (ℕ × T)
  outcomes_of runs = map (λ r. (r.number, r.outcome)) runs

  -- the entries of the runs, one run after the other
  abbrev pub entries_of : List (Run Q R T) → List (Entry Q R)
  entries_of [] = []
  entries_of (r ∷ rs) = entries_for r.number r.asked ++ entries_of rs

  -- the numbers of some workers' seats, each with the entries that it made
  abbrev pub made_by_workers : List (ℕ × List (Run Q R T)) → List (ℕ × List (Entry Q R))
  made_by_workers workers = map (λ w. (w.0, entries_of w.1)) workers

  -- the runs of all workers
  abbrev pub all_runs : List (ℕ × List (Run Q R T)) → List (Run Q R T)
  all_runs [] = []
  all_runs (w ∷ ws) = w.1 ++ all_runs ws

  -- a worker's runs: of iterations below n, in rising order, each of which asked what its iteration asks
  pub record AreRuns (asks : ℕ → List R → Next Q T) (stop_of : T → Option PortStop) (n : ℕ) (runs : List (Run Q R T)) : Type 0 where
    pub rising : IsRising (numbers_of runs)
    pub below : AllLess n (numbers_of runs)
    pub ran : AllByRecursion (λ r. RunsOnSeat (asks r.number) (stop_of r.outcome) r.asked r.outcome) runs

  module _ {S : Type 0} where
    -- a worker made these runs so far: it drew their numbers, its seat made their entries, and it has their outcomes
    pub record HasRun (turn : TableId × S) (count : Claims) (asks : ℕ → List R → Next Q T) (stop_of : T → Option PortStop) (seat : TableId × View S Q R) (claimer : ClaimSeat) (outcomes : List (ℕ × T)) : Type 0 where
      pub number : ℕ
      pub runs : List (Run Q R T)
      pub are : AreRuns asks stop_of (drawing.count_of count) runs
      pub own : turns.IsSeatOf turn seat
      pub made : seat.1.made ≡ (number, entries_of runs) ∷ []
      pub rest : seat.1.rest ≡ 0
      pub claims : drawing.IsSeatOf count claimer
      pub seats : drawing.seats_from claimer ≡ 1
      pub drawn : drawing.drawn_by claimer ≡ numbers_of runs
      pub outcomes_are : outcomes ≡ outcomes_of runs

    -- it made all its runs: no number is left
    abbrev pub HasEnded : TableId × S → Claims → (ℕ → List R → Next Q T) → (T → Option PortStop) → TableId × View S Q R → ClaimSeat → List (ℕ × T) → Type 0
    HasEnded turn count asks stop_of seat claimer outcomes = HasRun turn count asks stop_of seat claimer outcomes × (drawing.is_done claimer ≡ true)

    -- the seats of a loop of so many workers, of which all but so many were taken in again, with the places of outcomes
    pub record HasTakenIn (turn : TableId × S) (count : Claims) (asks : ℕ → List R → Next Q T) (stop_of : T → Option PortStop) (workers out : ℕ) (seat : TableId × View S Q R) (claimer : ClaimSeat) (places : List (Option T)) : Type 0 where
      pub number : ℕ
      pub done : List (ℕ × List (Run Q R T))
      pub empty : List (Option T)
      pub each : AllByRecursion (λ w. AreRuns asks stop_of (drawing.count_of count) w.1) done
      pub own : turns.IsSeatOf turn seat
      pub made : seat.1.made ≡ (number, []) ∷ made_by_workers done
      pub rest : seat.1.rest + workers ≡ 4294967296
      pub out_are : length done + out ≡ workers
      pub claims : drawing.IsSeatOf count claimer
      pub seats : drawing.seats_from claimer + out ≡ drawing.all_seats
      pub drawn : drawing.drawn_by claimer ≡ numbers_of (all_runs done)
      pub ended : 0 < length done → drawing.is_done claimer ≡ true
      pub room : length empty ≡ drawing.count_of count
      pub placed : places ≡ put_into empty (outcomes_of (all_runs done))
