-- A worker draws a number and runs its iteration.
use Rattle.std.proofs.Common.{◌≡◌, ℕ, ◌<◌, Option, List, [], ◌∷◌, ◌++◌, refl, ap, sym, subst, ◌∙◌, append_assoc}
use Rattle.std.proofs.lemmas.List.{append-nil}
use Rattle.best_turn.specs.Seated.{TableId}
use Rattle.best_turn.specs.declared.view.View.{View}
use Rattle.best_turn.specs.Seats as turns
use Rattle.best_monitor.specs.declared.port.PortStop.{PortStop}
use Rattle.best_monitor.specs.Port.{entries_for, with_all}
use Rattle.iter_claim.specs.declared.claims.Claims.{Claims}
use Rattle.iter_claim.specs.declared.claims.ClaimSeat.{ClaimSeat}
use Rattle.iter_claim.specs.Numbers.{AllLess}
use Rattle.iter_claim.specs.Seats as claims
use Rattle.parall_loop.specs.Iteration.{Next, RunsOnSeat}
use Rattle.parall_loop.specs.Runs.{Run, numbers_of, entries_of, IsRising, IsFresh, HasRun}
use Rattle.parall_loop.proofs.Schedules.{map_append, all_append}
use Rattle.parall_loop.proofs.Numbers.{rising_push, less_push}

module _ {Q R T : Type 0} where
  abbrev run_of : ℕ → List (Q × R) → T → Run Q R T
  run_of k asked outcome = record { number = k; asked = asked; outcome = outcome }

  entries_push : (runs : List (Run Q R T)) (r : Run Q R T) → entries_of (runs ++ r ∷ []) ≡ entries_of runs ++ entries_for r.number r.asked
  entries_push [] r = append-nil (entries_for r.number r.asked)
  entries_push (x ∷ xs) r = ap (λ l. entries_for x.number x.asked ++ l) (entries_push xs r) ∙ sym (append_assoc (entries_for x.number x.asked) (entries_of xs) (entries_for r.number r.asked))

  module _ {S : Type 0} (turn : TableId × S) (count : Claims) (asks : ℕ → List R → Next Q T) (stop_of : T → Option PortStop) where
    pub nothing_run : (seat : TableId × View S Q R) (claimer : ClaimSeat) → IsFresh turn count seat claimer → HasRun turn count asks stop_of seat claimer []
    nothing_run seat claimer fresh = record {
      number = fresh.number;
      runs = [];
      are = record { rising = tt; below = tt; ran = tt };
      own = fresh.own;
      made = fresh.made;
      rest = fresh.rest;
      claims = fresh.claims;
      seats = fresh.seats;
      drawn = fresh.drawn;
      outcomes_are = refl;
    }

    -- a look at the claims that gave no number
    pub none_drawn : (seat : TableId × View S Q R) (claimer claimer' : ClaimSeat) (outcomes : List (ℕ × T)) → HasRun turn count asks stop_of seat claimer outcomes
        → claims.IsSeatOf count claimer' → claims.seats_from claimer' ≡ claims.seats_from claimer → claims.drawn_by claimer' ≡ claims.drawn_by claimer
        → HasRun turn count asks stop_of seat claimer' outcomes
    none_drawn seat claimer claimer' outcomes has own seats drawn = record {
      number = has.number;
      runs = has.runs;
      are = has.are;
      own = has.own;
      made = has.made;
      rest = has.rest;
      claims = own;
      seats = seats ∙ has.seats;
      drawn = drawn ∙ has.drawn;
      outcomes_are = has.outcomes_are;
    }

    pub one_run : (seat seat' : TableId × View S Q R) (claimer claimer' : ClaimSeat) (outcomes : List (ℕ × T)) (k : ℕ) (outcome : T) → HasRun turn count asks stop_of seat claimer outcomes
        → claims.IsSeatOf count claimer' → claims.seats_from claimer' ≡ claims.seats_from claimer → k < claims.count_of count → AllLess k (claims.drawn_by claimer) → claims.drawn_by claimer' ≡ claims.drawn_by claimer ++ k ∷ []
        → turns.IsSeatOf turn seat' → seat'.1.rest ≡ seat.1.rest
        → (asked : List (Q × R)) × (seat'.1.made ≡ with_all (entries_for k asked) seat.1.made) × RunsOnSeat (asks k) (stop_of outcome) asked outcome
        → HasRun turn count asks stop_of seat' claimer' (outcomes ++ (k, outcome) ∷ [])
    one_run seat seat' claimer claimer' outcomes k outcome has own seats small less drawn own' rest made =
        let r : Run Q R T = run_of k made.0 outcome in
        record {
          number = has.number;
          runs = has.runs ++ r ∷ [];
          are = record {
            rising = subst (λ l. IsRising l) (sym (map_append (λ (x : Run Q R T). x.number) has.runs (r ∷ []))) (rising_push (numbers_of has.runs) k has.are.rising (subst (λ l. AllLess k l) has.drawn less));
            below = subst (λ l. AllLess (claims.count_of count) l) (sym (map_append (λ (x : Run Q R T). x.number) has.runs (r ∷ []))) (less_push (claims.count_of count) (numbers_of has.runs) k has.are.below small);
            ran = all_append (λ (x : Run Q R T). RunsOnSeat (asks x.number) (stop_of x.outcome) x.asked x.outcome) has.runs (r ∷ []) has.are.ran (made.2, tt);
          };
          own = own';
          made = made.1 ∙ (ap (with_all (entries_for k made.0)) has.made ∙ ap (λ l. (has.number, l) ∷ []) (sym (entries_push has.runs r)));
          rest = rest ∙ has.rest;
          claims = own;
          seats = seats ∙ has.seats;
          drawn = drawn ∙ (ap (λ l. l ++ k ∷ []) has.drawn ∙ sym (map_append (λ (x : Run Q R T). x.number) has.runs (r ∷ [])));
          outcomes_are = ap (λ l. l ++ (k, outcome) ∷ []) has.outcomes_are ∙ sym (map_append (λ (x : Run Q R T). (x.number, x.outcome)) has.runs (r ∷ []));
        }
