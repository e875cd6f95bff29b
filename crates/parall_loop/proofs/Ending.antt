-- What a loop leaves once all its workers were taken in and the turn and the claims were closed.
use Rattle.std.proofs.Common.{◌≡◌, ℕ, zero, suc, ◌+◌, ◌<◌, ◌≤◌, Bool, true, false, List, [], ◌∷◌, ◌++◌, length, map, get_or, refl, ap, sym, subst, ◌∙◌, arith, Option, Some, None}
use Rattle.std.specs.Prelude.{slice_get}
use Rattle.std.specs.List.{AllByRecursion}
use Rattle.std.proofs.lemmas.List.{append-nil, length-map}
use Rattle.std.proofs.lemmas.Option.{slice_get-get_or, slice_get_within}
use native.Mathlib.Decide.{dec_le}
use Rattle.best_turn.specs.Seated.{TableId}
use Rattle.best_turn.specs.declared.replays.Entry.{Entry}
use Rattle.best_turn.specs.declared.view.View.{View}
use Rattle.best_turn.specs.History.{fold_of, IsLegal}
use Rattle.best_turn.specs.Rule.{Closes}
use Rattle.best_monitor.specs.declared.port.PortStop.{PortStop}
use Rattle.iter_claim.specs.declared.claims.Claims.{Claims}
use Rattle.iter_claim.specs.declared.claims.ClaimSeat.{ClaimSeat}
use Rattle.iter_claim.specs.Numbers.{times, AllLess, HoldsEachOnce}
use Rattle.iter_claim.specs.Seats as claims
use Rattle.parall_loop.specs.Iteration.{Next, RunsOnSeat, Fits, asked_of, asked_by, one_by_one}
use Rattle.parall_loop.specs.Runs.{Run, filled, numbers_of, outcomes_of, entries_of, made_by_workers, all_runs, AreRuns, HasEnded, HasTakenIn}
use Rattle.parall_loop.proofs.Numbers.{all_map}
use Rattle.parall_loop.proofs.Places.{put_gives, put_length, filled_length, filled_get}
use Rattle.parall_loop.proofs.Fitting.{HasEntries, times_run, pairs_of, all_of_workers, each_run, no_others, one_worker, run_by_run}

all_both : {A : Type 0} (P P' : A → Type 0) (xs : List A) → AllByRecursion P xs → AllByRecursion P' xs → AllByRecursion (λ x. P x × P' x) xs
all_both P P' [] h k = tt
all_both P P' (x ∷ xs) h k = ((h.0, k.0), all_both P P' xs h.1 k.1)

all_get : {A : Type 0} (P : A → Type 0) (xs : List A) (k : ℕ) (x : A) → AllByRecursion P xs → slice_get xs k ≡ Some x → P x
all_get P [] k x h e = let c : None ≡ Some x = e in cc
all_get P (y ∷ ys) zero x h e = let c : Some y ≡ Some x = e in let same : y ≡ x = cc in subst P same h.0
all_get P (y ∷ ys) (suc k) x h e = all_get P ys k x h.1 e

all_outcomes : {Q R T : Type 0} (P : ℕ × T → Type 0) (runs : List (Run Q R T)) → AllByRecursion (λ r. P (r.number, r.outcome)) runs → AllByRecursion P (outcomes_of runs)
all_outcomes P [] h = tt
all_outcomes P (r ∷ rs) h = (h.0, all_outcomes P rs h.1)

numbers_of_outcomes : {Q R T : Type 0} (runs : List (Run Q R T)) → map (λ x. x.0) (outcomes_of runs) ≡ numbers_of runs
numbers_of_outcomes [] = refl
numbers_of_outcomes (r ∷ rs) = ap (λ l. r.number ∷ l) (numbers_of_outcomes rs)

all_zero : (xs : List ℕ) → AllByRecursion (λ x. 0 ≤ x) xs
all_zero [] = tt
all_zero (x ∷ xs) = (omega arith, all_zero xs)

-- a worker's outcomes have places
pub have_places : {S Q R T : Type 0} (turn : TableId × S) (count : Claims) (asks : ℕ → List R → Next Q T) (stop_of : T → Option PortStop) (workers out : ℕ) (seat other : TableId × View S Q R) (claimer claims_of : ClaimSeat) (places : List (Option T)) (outcomes : List (ℕ × T))
    → HasTakenIn turn count asks stop_of workers out seat claimer places → HasEnded turn count asks stop_of other claims_of outcomes → AllLess (length places) (map (λ x. x.0) outcomes)
have_places turn count asks stop_of workers out seat other claimer claims_of places outcomes has end =
    let size : claims.count_of count ≡ length places = sym (ap (λ l. length l) has.placed ∙ (put_length has.empty (outcomes_of (all_runs has.done)) ∙ has.room)) in
    subst (λ l. AllLess (length places) (map (λ x. x.0) l)) (sym end.0.outcomes_are) (subst (λ l. AllLess (length places) l) (sym (numbers_of_outcomes end.0.runs)) (subst (λ m. AllLess m (numbers_of end.0.runs)) size end.0.are.below))

-- what a loop leaves
pub record Leaves {S Q R T : Type 0} (takes : S → Q → Type 0) (after : S → Q → S) (answer : S → Q → R) (start : S) (asks : ℕ → List R → Next Q T) (stop_of : T → Option PortStop) (n workers : ℕ) (state : S) (history : List (Entry Q R)) (outcomes : List T) : Type 0 where
  pub legal : IsLegal takes after answer start history
  pub fold : state ≡ fold_of after start history
  pub iterations : AllByRecursion (λ e. e.iteration < n) history
  pub outcomes_are : length outcomes ≡ n
  pub ran : (k : ℕ) (t : T) → slice_get outcomes k ≡ Some t → RunsOnSeat (asks k) (stop_of t) (asked_by k history) t
  pub fits : (d : T) → AllByRecursion (λ t. stop_of t ≡ None) outcomes → Fits takes after answer start asks n (λ k. get_or outcomes k d) history
  pub order : workers ≡ 1 → history ≡ one_by_one history 0 n

module _ {S Q R T : Type 0} (takes : S → Q → Type 0) (after : S → Q → S) (answer : S → Q → R) (turn : TableId × S) (count : Claims) (asks : ℕ → List R → Next Q T) (stop_of : T → Option PortStop) (workers : ℕ) (seat : TableId × View S Q R) (claimer : ClaimSeat) (places : List (Option T)) where
  module _ (has : HasTakenIn turn count asks stop_of workers 0 seat claimer places) (state : S) (history : List (Entry Q R)) (c : Closes takes after answer turn.1 seat.1 state history) (once : HoldsEachOnce (claims.drawn_by claimer)) (all : claims.is_done claimer ≡ true → length (claims.drawn_by claimer) ≡ claims.count_of count) (some : 0 < workers) where
    abbrev n : ℕ
    n = claims.count_of count

    abbrev runs : List (Run Q R T)
    runs = all_runs has.done

    drawn_all : length (numbers_of runs) ≡ n
    drawn_all = ap (λ l. length l) (sym has.drawn) ∙ all (has.ended (let h : length has.done + 0 ≡ workers = has.out_are in omega arith))

    each_once : HoldsEachOnce (numbers_of runs)
    each_once = subst HoldsEachOnce has.drawn once

    once_below : (k : ℕ) → k < n → times_run k runs ≡ 1
    once_below k small = each_once.once k (let h = drawn_all in omega arith)

    none_above : (k : ℕ) → n ≤ k → times_run k runs ≡ 0
    none_above k above = each_once.no_other k (let h = drawn_all in omega arith)

    at_most_once : (k : ℕ) → times_run k runs ≤ 1
    at_most_once k = cases (dec_le n k)
      where
        cases : Dec (n ≤ k) → times_run k runs ≤ 1
        cases (yes above) = let h = none_above k above in omega arith
        cases (no below) = let h = once_below k (omega arith) in omega arith

    entries_are : AllByRecursion (HasEntries history) runs
    entries_are = each_run takes after answer turn.1 seat.1 state history c has.number has.done has.made at_most_once

    all_ran : AllByRecursion (λ (x : ℕ × T). RunsOnSeat (asks x.0) (stop_of x.1) (asked_by x.0 history) x.1) (outcomes_of runs)
    all_ran = all_outcomes (λ (x : ℕ × T). RunsOnSeat (asks x.0) (stop_of x.1) (asked_by x.0 history) x.1) runs
        (all_map (λ (r : Run Q R T). RunsOnSeat (asks r.number) (stop_of r.outcome) r.asked r.outcome × HasEntries history r) (λ (r : Run Q R T). RunsOnSeat (asks r.number) (stop_of r.outcome) (asked_by r.number history) r.outcome)
        (λ r h. subst (λ l. RunsOnSeat (asks r.number) (stop_of r.outcome) l r.outcome) (sym (ap asked_of h.1 ∙ pairs_of r.number r.asked)) h.0)
        runs
        (all_both (λ (r : Run Q R T). RunsOnSeat (asks r.number) (stop_of r.outcome) r.asked r.outcome) (HasEntries history) runs
        (all_of_workers (λ (r : Run Q R T). RunsOnSeat (asks r.number) (stop_of r.outcome) r.asked r.outcome) has.done (all_map (λ (w : ℕ × List (Run Q R T)). AreRuns asks stop_of n w.1) (λ (w : ℕ × List (Run Q R T)). AllByRecursion (λ (r : Run Q R T). RunsOnSeat (asks r.number) (stop_of r.outcome) r.asked r.outcome) w.1) (λ w h. h.ran) has.done has.each))
        entries_are))

    size : length places ≡ n
    size = ap (λ l. length l) has.placed ∙ (put_length has.empty (outcomes_of runs) ∙ has.room)

    found : (k : ℕ) → k < length places → (x : ℕ × T) × RunsOnSeat (asks x.0) (stop_of x.1) (asked_by x.0 history) x.1 × (x.0 ≡ k) × (slice_get places k ≡ Some (Some x.1))
    found k small =
        let one : times_run k runs ≡ 1 = once_below k (let h = size in omega arith) in
        let same : times k (map (λ (x : ℕ × T). x.0) (outcomes_of runs)) ≡ times_run k runs = ap (times k) (numbers_of_outcomes runs) in
        let x = put_gives (λ (x : ℕ × T). RunsOnSeat (asks x.0) (stop_of x.1) (asked_by x.0 history) x.1) k has.empty (outcomes_of runs) (let h = size in let r = has.room in omega arith) (omega arith) all_ran in
        (x.0, x.1, x.2, ap (λ l. slice_get l k) has.placed ∙ x.3)

    all_filled : (k : ℕ) → k < length places → (t : T) × (slice_get places k ≡ Some (Some t))
    all_filled k small = let x = found k small in (x.0.1, x.3)

    iterations : AllByRecursion (λ (e : Entry Q R). e.iteration < n) history
    iterations = no_others takes after answer turn.1 seat.1 state history c has.number n has.done has.made none_above

    outcomes_length : length (filled places) ≡ n
    outcomes_length = filled_length places all_filled ∙ size

    ran : (k : ℕ) (t : T) → slice_get (filled places) k ≡ Some t → RunsOnSeat (asks k) (stop_of t) (asked_by k history) t
    ran k t there =
        let small : k < length places = let h = slice_get_within (filled places) k t there in let s = filled_length places all_filled in omega arith in
        let x = found k small in
        let same : Some (Some x.0.1) ≡ Some (Some t) = sym x.3 ∙ filled_get places all_filled k t there in
        let outcome : x.0.1 ≡ t = cc in
        let pair : x.0 ≡ (k, t) = λ i. (x.2 i, outcome i) in
        subst (λ (y : ℕ × T). RunsOnSeat (asks y.0) (stop_of y.1) (asked_by y.0 history) y.1) pair x.1

    fits : (d : T) → AllByRecursion (λ (t : T). stop_of t ≡ None) (filled places) → Fits takes after answer turn.1 asks n (λ k. get_or (filled places) k d) history
    fits d whole = record {
      legal = c.legal;
      numbers = iterations;
      asked = λ k small. (ran k (get_or (filled places) k d) (there k small)).0.follows;
      ended = λ k small. (ran k (get_or (filled places) k d) (there k small)).0.ends (all_get (λ (t : T). stop_of t ≡ None) (filled places) k (get_or (filled places) k d) whole (there k small));
    }
      where
        there : (k : ℕ) → k < n → slice_get (filled places) k ≡ Some (get_or (filled places) k d)
        there k small = slice_get-get_or (filled places) k d (let h = outcomes_length in omega arith)

    order : workers ≡ 1 → history ≡ one_by_one history 0 n
    order one = of_one has.done has.made has.each entries_are drawn_all (let h : length has.done + 0 ≡ workers = has.out_are in omega arith)
      where
        of_one : (ws : List (ℕ × List (Run Q R T))) → seat.1.made ≡ (has.number, []) ∷ made_by_workers ws → AllByRecursion (λ (w : ℕ × List (Run Q R T)). AreRuns asks stop_of n w.1) ws
            → AllByRecursion (HasEntries history) (all_runs ws) → length (numbers_of (all_runs ws)) ≡ n → length ws ≡ 1 → history ≡ one_by_one history 0 n
        of_one [] made each are many some = absurd (omega arith)
        of_one (w ∷ w' ∷ ws) made each are many some = absurd (omega arith)
        of_one (w ∷ []) made each are many some =
            let mine : w.1 ++ [] ≡ w.1 = append-nil w.1 in
            let size : length w.1 ≡ n = sym (length-map w.1 (λ (r : Run Q R T). r.number)) ∙ (ap (λ (l : List (Run Q R T)). length (numbers_of l)) (sym mine) ∙ many) in
            let rows : entries_of w.1 ≡ one_by_one history 0 (length w.1) = run_by_run history 0 w.1 each.0.rising (all_zero (numbers_of w.1)) (subst (λ m. AllLess m (numbers_of w.1)) (let h = size in omega arith) each.0.below) (subst (AllByRecursion (HasEntries history)) mine are) in
            one_worker takes after answer turn.1 seat.1 state history c has.number w made ∙ (rows ∙ ap (one_by_one history 0) size)

    whole : Leaves takes after answer turn.1 asks stop_of n workers state history (filled places)
    whole = record { legal = c.legal; fold = c.state_is; iterations = iterations; outcomes_are = outcomes_length; ran = ran; fits = fits; order = order }

    pub leaves : (start : S) (m : ℕ) (outcomes : List T) → turn.1 ≡ start → n ≡ m → outcomes ≡ filled places → Leaves takes after answer start asks stop_of m workers state history outcomes
    leaves start m outcomes begun many are =
        subst (λ l. Leaves takes after answer start asks stop_of m workers state history l) (sym are)
        (subst (λ k. Leaves takes after answer start asks stop_of k workers state history (filled places)) many
        (subst (λ s. Leaves takes after answer s asks stop_of n workers state history (filled places)) begun whole))
