-- A worker's seats are taken in again.
use Rattle.std.proofs.Common.{◌≡◌, ℕ, suc, ◌+◌, max, Bool, true, false, ◌||◌, List, [], ◌∷◌, ◌++◌, length, refl, ap, ap₂, sym, ◌∙◌, append_assoc, arith, Option}
use Rattle.std.proofs.lemmas.List.{append-nil, length_push}
use Rattle.best_turn.specs.Seated.{TableId}
use Rattle.best_turn.specs.declared.replays.Entry.{Entry}
use Rattle.best_turn.specs.declared.view.View.{View}
use Rattle.best_turn.specs.Rule.{both}
use Rattle.best_turn.specs.Seats as turns
use Rattle.best_monitor.specs.declared.port.PortStop.{PortStop}
use Rattle.iter_claim.specs.declared.claims.Claims.{Claims}
use Rattle.iter_claim.specs.declared.claims.ClaimSeat.{ClaimSeat}
use Rattle.iter_claim.specs.Seats as claims
use Rattle.parall_loop.specs.Iteration.{Next}
use Rattle.parall_loop.specs.Runs.{Run, numbers_of, outcomes_of, entries_of, all_runs, put_into, AreRuns, HasEnded, HasSplit, HasTakenIn}
use Rattle.parall_loop.proofs.Schedules.{map_append, all_append}
use Rattle.parall_loop.proofs.Places.{put_append}

or_true : (b : Bool) → (b || true) ≡ true
or_true true = refl
or_true false = refl

max_zero : (n : ℕ) → max n 0 ≡ n
max_zero n = omega arith

module _ {Q R T : Type 0} where
  pub all_runs_append : (xs ys : List (ℕ × List (Run Q R T))) → all_runs (xs ++ ys) ≡ all_runs xs ++ all_runs ys
  all_runs_append [] ys = refl
  all_runs_append (x ∷ xs) ys = ap (λ l. x.1 ++ l) (all_runs_append xs ys) ∙ sym (append_assoc x.1 (all_runs xs) (all_runs ys))

  runs_push : (ws : List (ℕ × List (Run Q R T))) (w : ℕ × List (Run Q R T)) → all_runs (ws ++ w ∷ []) ≡ all_runs ws ++ w.1
  runs_push ws w = all_runs_append ws (w ∷ []) ∙ ap (λ l. all_runs ws ++ l) (append-nil w.1)

  module _ {S : Type 0} (turn : TableId × S) (count : Claims) (asks : ℕ → List R → Next Q T) (stop_of : T → Option PortStop) where
    -- all workers are out
    pub none_taken : (workers : ℕ) (seat : TableId × View S Q R) (claimer : ClaimSeat) (places : List (Option T)) → HasSplit turn count workers seat claimer → length places ≡ claims.count_of count
        → HasTakenIn turn count asks stop_of workers workers seat claimer places
    none_taken workers seat claimer places has room = record {
      number = has.number;
      done = [];
      empty = places;
      each = tt;
      own = has.own;
      made = has.made;
      rest = has.rest;
      out_are = omega arith;
      claims = has.claims;
      seats = has.seats;
      drawn = has.drawn;
      ended = λ some. absurd (omega arith);
      room = room;
      placed = refl;
    }

    pub taken_in : (workers out : ℕ) (seat other seat' : TableId × View S Q R) (claimer claims_of claimer' : ClaimSeat) (places places' : List (Option T)) (outcomes : List (ℕ × T))
        → HasTakenIn turn count asks stop_of workers (suc out) seat claimer places → HasEnded turn count asks stop_of other claims_of outcomes
        → turns.IsSeatOf turn seat' → seat'.1 ≡ both seat.1 other.1
        → claims.IsSeatOf count claimer' → claims.seats_from claimer' ≡ claims.seats_from claimer + claims.seats_from claims_of → claims.drawn_by claimer' ≡ claims.drawn_by claimer ++ claims.drawn_by claims_of
        → claims.is_done claimer' ≡ (claims.is_done claimer || claims.is_done claims_of) → places' ≡ put_into places outcomes
        → HasTakenIn turn count asks stop_of workers out seat' claimer' places'
    taken_in workers out seat other seat' claimer claims_of claimer' places places' outcomes has end own view own' seats drawn done placed =
        let w : ℕ × List (Run Q R T) = (end.0.number, end.0.runs) in
        record {
          number = has.number;
          done = has.done ++ w ∷ [];
          empty = has.empty;
          each = all_append (λ (x : ℕ × List (Run Q R T)). AreRuns asks stop_of (claims.count_of count) x.1) has.done (w ∷ []) has.each (end.0.are, tt);
          own = own;
          made = ap (λ (v : View S Q R). v.made) view ∙ (ap₂ (λ (x y : List (ℕ × List (Entry Q R))). x ++ y) has.made end.0.made ∙ ap (λ l. (has.number, []) ∷ l) (sym (map_append (λ (x : ℕ × List (Run Q R T)). (x.0, entries_of x.1)) has.done (w ∷ []))));
          rest = ap (λ (v : View S Q R). v.rest + workers) view ∙ (ap (λ r. max seat.1.rest r + workers) end.0.rest ∙ (ap (λ r. r + workers) (max_zero seat.1.rest) ∙ has.rest));
          out_are = let h : length has.done + suc out ≡ workers = has.out_are in let p = length_push has.done w in omega arith;
          claims = own';
          seats = let h : claims.seats_from claimer + suc out ≡ claims.all_seats = has.seats in let one = end.0.seats in omega arith;
          drawn = drawn ∙ (ap₂ (λ (x y : List ℕ). x ++ y) has.drawn end.0.drawn ∙ (sym (map_append (λ (x : Run Q R T). x.number) (all_runs has.done) end.0.runs) ∙ ap numbers_of (sym (runs_push has.done w))));
          ended = λ some. done ∙ (ap (λ b. claims.is_done claimer || b) end.1 ∙ or_true (claims.is_done claimer));
          room = has.room;
          placed = placed ∙ (ap₂ put_into has.placed end.0.outcomes_are ∙ (sym (put_append has.empty (outcomes_of (all_runs has.done)) (outcomes_of end.0.runs))
              ∙ ap (put_into has.empty) (sym (map_append (λ (x : Run Q R T). (x.number, x.outcome)) (all_runs has.done) end.0.runs) ∙ ap outcomes_of (sym (runs_push has.done w)))));
        }
