-- At the end of a loop its history holds each iteration's entries, and its outcomes stand in order.
use Rattle.std.proofs.Common.{◌≡◌, ◌≢◌, ℕ, zero, suc, ◌+◌, ◌<◌, ◌≤◌, ◌⊎◌, inl, inr, ⊎_elim, Bool, true, false, cond, eqb, eq-eqb, ne_eqb, List, [], ◌∷◌, ◌++◌, length, refl, ap, ap₂, sym, subst, ◌∙◌, append_assoc, arith}
use Rattle.std.specs.List.{AllByRecursion}
use Rattle.std.proofs.lemmas.List.{append-nil, length-map}
use mathlib.Core.Option.{some, some-ne-none, some-injective}
use native.Mathlib.Decide.{ℕ_discrete, dec_le}
use lib.ListN.{get_elem?}
use Rattle.best_turn.specs.declared.replays.Entry.{Entry}
use Rattle.best_turn.specs.declared.view.View.{View}
use Rattle.best_turn.specs.History.{total, entries, made_by, IsMade, of_iteration}
use Rattle.best_turn.specs.Rule.{one_if, Closes}
use Rattle.best_turn.specs.Calls.{entry}
use Rattle.best_turn.proofs.Iterations.{iteration_of}
use Rattle.best_monitor.specs.Port.{entries_for}
use Rattle.iter_claim.specs.Numbers.{times, AllLess}
use Rattle.parall_loop.specs.Iteration.{asked_of, one_by_one}
use Rattle.parall_loop.specs.Runs.{Run, IsRising, numbers_of, entries_of, made_by_workers, all_runs}
use Rattle.parall_loop.proofs.Schedules.{map_append, all_append, of_append}
use Rattle.parall_loop.proofs.Numbers.{all_map, all_splits, times_append, times_here, times_else, rising_room}
use Rattle.parall_loop.proofs.Taking.{all_runs_append}

all_at : {A : Type 0} (P : A → Type 0) (xs : List A) (j : ℕ) (x : A) → AllByRecursion P xs → get_elem? xs j ≡ some x → P x
all_at P [] j x h e = absurd (some-ne-none x (sym e))
all_at P (y ∷ ys) zero x h e = subst P (some-injective _ _ e) h.0
all_at P (y ∷ ys) (suc j) x h e = all_at P ys j x h.1 e

cons_not_nil : {A : Type 0} (x : A) (xs : List A) → x ∷ xs ≡ [] → ⊥
cons_not_nil x xs e = cc

module _ {Q R : Type 0} where
  of_same : (k : ℕ) (asked : List (Q × R)) → of_iteration k (entries_for k asked) ≡ entries_for k asked
  of_same k [] = refl
  of_same k (x ∷ xs) = ap (λ b. cond b (entry k x.0 x.1 ∷ of_iteration k (entries_for k xs)) (of_iteration k (entries_for k xs))) (eq-eqb k k refl) ∙ ap (λ l. entry k x.0 x.1 ∷ l) (of_same k xs)

  of_other : (k j : ℕ) (asked : List (Q × R)) → j ≢ k → of_iteration k (entries_for j asked) ≡ []
  of_other k j [] ne = refl
  of_other k j (x ∷ xs) ne = ap (λ b. cond b (entry j x.0 x.1 ∷ of_iteration k (entries_for j xs)) (of_iteration k (entries_for j xs))) (ne_eqb j k ne) ∙ of_other k j xs ne

  made_at : (log : List (ℕ × Entry Q R)) (before : List (ℕ × List (Entry Q R))) (m : ℕ × List (Entry Q R)) (after : List (ℕ × List (Entry Q R))) → IsMade log (before ++ m ∷ after) → made_by m.0 log ≡ m.1
  made_at log [] m after made = made.0
  made_at log (x ∷ xs) m after made = made_at log xs m after made.1

  pub pairs_of : (k : ℕ) (asked : List (Q × R)) → asked_of (entries_for k asked) ≡ asked
  pairs_of k [] = refl
  pairs_of k (x ∷ xs) = ap (λ l. x ∷ l) (pairs_of k xs)

  -- a history in which no iteration from n on has an entry
  all_below : (n : ℕ) (history : List (Entry Q R)) → ((k : ℕ) → n ≤ k → of_iteration k history ≡ []) → AllByRecursion (λ (e : Entry Q R). e.iteration < n) history
  all_below n [] none = tt
  all_below n (e ∷ es) none = (here (dec_le n e.iteration), all_below n es (λ k above. behind k (eqb e.iteration k) (none k above)))
    where
      here : Dec (n ≤ e.iteration) → e.iteration < n
      here (yes above) = absurd (cons_not_nil e (of_iteration e.iteration es) (sym (ap (λ b. cond b (e ∷ of_iteration e.iteration es) (of_iteration e.iteration es)) (eq-eqb e.iteration e.iteration refl)) ∙ none e.iteration above))
      here (no below) = omega arith

      behind : (k : ℕ) (b : Bool) → cond b (e ∷ of_iteration k es) (of_iteration k es) ≡ [] → of_iteration k es ≡ []
      behind k true h = absurd (cons_not_nil e (of_iteration k es) h)
      behind k false h = h

  -- a log of two numbers, of which the first made nothing
  other_made : (a b : ℕ) (log : List (ℕ × Entry Q R)) → ((i m : ℕ) (e : Entry Q R) → get_elem? log i ≡ some (m, e) → (m ≡ a) ⊎ (m ≡ b)) → made_by a log ≡ [] → entries log ≡ made_by b log
  other_made a b [] two none = refl
  other_made a b (x ∷ xs) two none = cases (ℕ_discrete x.0 a) (ℕ_discrete x.0 b) (other_made a b xs (λ i m e there. two (suc i) m e there))
    where
      cases : Dec (x.0 ≡ a) → Dec (x.0 ≡ b) → (made_by a xs ≡ [] → entries xs ≡ made_by b xs) → x.1 ∷ entries xs ≡ cond (eqb x.0 b) (x.1 ∷ made_by b xs) (made_by b xs)
      cases (yes is) d more = absurd (cons_not_nil x.1 (made_by a xs) (sym (ap (λ t. cond t (x.1 ∷ made_by a xs) (made_by a xs)) (eq-eqb x.0 a is)) ∙ none))
      cases (no ne) (yes is) more =
          let rest : entries xs ≡ made_by b xs = more (sym (ap (λ t. cond t (x.1 ∷ made_by a xs) (made_by a xs)) (ne_eqb x.0 a ne)) ∙ none) in
          ap (λ l. x.1 ∷ l) rest ∙ sym (ap (λ t. cond t (x.1 ∷ made_by b xs) (made_by b xs)) (eq-eqb x.0 b is))
      cases (no ne) (no other) more = absurd (⊎_elim (λ (p : x.0 ≡ a). ne p) (λ (p : x.0 ≡ b). other p) (two 0 x.0 x.1 refl))

module _ {Q R T : Type 0} where
  abbrev pub times_run : ℕ → List (Run Q R T) → ℕ
  times_run k runs = times k (numbers_of runs)

  times_run_append : (k : ℕ) (xs ys : List (Run Q R T)) → times_run k (xs ++ ys) ≡ times_run k xs + times_run k ys
  times_run_append k xs ys = ap (times k) (map_append (λ (r : Run Q R T). r.number) xs ys) ∙ times_append k (numbers_of xs) (numbers_of ys)

  entries_append : (xs ys : List (Run Q R T)) → entries_of (xs ++ ys) ≡ entries_of xs ++ entries_of ys
  entries_append [] ys = refl
  entries_append (x ∷ xs) ys = ap (λ l. entries_for x.number x.asked ++ l) (entries_append xs ys) ∙ sym (append_assoc (entries_for x.number x.asked) (entries_of xs) (entries_of ys))

  none_run : (k : ℕ) (runs : List (Run Q R T)) → times_run k runs ≡ 0 → of_iteration k (entries_of runs) ≡ []
  none_run k [] none = refl
  none_run k (r ∷ rs) none = cases (ℕ_discrete r.number k) (none_run k rs)
    where
      cases : Dec (r.number ≡ k) → (times_run k rs ≡ 0 → of_iteration k (entries_of rs) ≡ []) → of_iteration k (entries_for r.number r.asked ++ entries_of rs) ≡ []
      cases (yes is) rest = let h : times_run k (r ∷ rs) ≡ 1 + times_run k rs = times_here k r.number (numbers_of rs) is in absurd (omega arith)
      cases (no ne) rest = of_append k (entries_for r.number r.asked) (entries_of rs) ∙ (ap (λ l. l ++ of_iteration k (entries_of rs)) (of_other k r.number r.asked ne) ∙ rest (sym (times_else k r.number (numbers_of rs) ne) ∙ none))

  none_made : (k : ℕ) (ws : List (ℕ × List (Run Q R T))) → times_run k (all_runs ws) ≡ 0 → AllByRecursion (λ (m : ℕ × List (Entry Q R)). of_iteration k m.1 ≡ []) (made_by_workers ws)
  none_made k [] none = tt
  none_made k (w ∷ ws) none =
      let s : times_run k (w.1 ++ all_runs ws) ≡ times_run k w.1 + times_run k (all_runs ws) = times_run_append k w.1 (all_runs ws) in
      (none_run k w.1 (omega arith), none_made k ws (omega arith))

  -- of a worker's runs one is of this iteration
  one_run_of : (before : List (Run Q R T)) (r : Run Q R T) (after : List (Run Q R T)) → times_run r.number before ≡ 0 → times_run r.number after ≡ 0 → of_iteration r.number (entries_of (before ++ r ∷ after)) ≡ entries_for r.number r.asked
  one_run_of before r after none_before none_after =
      let k : ℕ = r.number in
      ap (of_iteration k) (entries_append before (r ∷ after)) ∙ (of_append k (entries_of before) (entries_for k r.asked ++ entries_of after)
      ∙ (ap (λ l. l ++ of_iteration k (entries_for k r.asked ++ entries_of after)) (none_run k before none_before)
      ∙ (of_append k (entries_for k r.asked) (entries_of after) ∙ (ap₂ (λ (x y : List (Entry Q R)). x ++ y) (of_same k r.asked) (none_run k after none_after) ∙ append-nil (entries_for k r.asked)))))

  pub all_of_workers : (P : Run Q R T → Type 0) (ws : List (ℕ × List (Run Q R T))) → AllByRecursion (λ (w : ℕ × List (Run Q R T)). AllByRecursion P w.1) ws → AllByRecursion P (all_runs ws)
  all_of_workers P [] h = tt
  all_of_workers P (w ∷ ws) h = all_append P w.1 (all_runs ws) h.0 (all_of_workers P ws h.1)

  -- the history has this run's entries, and no others of its iteration
  abbrev pub HasEntries : List (Entry Q R) → Run Q R T → Type 0
  HasEntries history r = of_iteration r.number history ≡ entries_for r.number r.asked

  -- runs of all iterations from k on, in rising order, and a history that has their entries
  pub run_by_run : (history : List (Entry Q R)) (k : ℕ) (runs : List (Run Q R T)) → IsRising (numbers_of runs) → AllByRecursion (λ x. k ≤ x) (numbers_of runs) → AllLess (k + length runs) (numbers_of runs)
      → AllByRecursion (HasEntries history) runs → entries_of runs ≡ one_by_one history k (length runs)
  run_by_run history k [] rising above less has = refl
  run_by_run history k (r ∷ rs) rising above less has =
      let far : r.number + length (numbers_of rs) < k + suc (length rs) = rising_room r.number (k + suc (length rs)) (numbers_of rs) less.0 rising.0 less.1 rising.1 in
      let many : length (numbers_of rs) ≡ length rs = length-map rs (λ (x : Run Q R T). x.number) in
      let low : k ≤ r.number = above.0 in
      let is : r.number ≡ k = omega arith in
      let sum : k + suc (length rs) ≡ suc k + length rs = omega arith in
      let rest : entries_of rs ≡ one_by_one history (suc k) (length rs) = run_by_run history (suc k) rs rising.1 (all_map (λ x. r.number < x) (λ x. suc k ≤ x) (λ x h. omega arith) (numbers_of rs) rising.0) (subst (λ n. AllLess n (numbers_of rs)) sum less.1) has.1 in
      let first : entries_for r.number r.asked ≡ of_iteration k history = sym has.0 ∙ ap (λ j. of_iteration j history) is in
      ap₂ (λ (x y : List (Entry Q R)). x ++ y) first rest

  module _ {S : Type 0} (takes : S → Q → Type 0) (after : S → Q → S) (answer : S → Q → R) (start : S) (v : View S Q R) (state : S) (history : List (Entry Q R)) (c : Closes takes after answer start v state history) (first : ℕ) where
    -- the history has the entries of each run, and no others of its iteration
    pub each_run : (ws : List (ℕ × List (Run Q R T))) → v.made ≡ (first, []) ∷ made_by_workers ws → ((k : ℕ) → times_run k (all_runs ws) ≤ 1)
        → AllByRecursion (HasEntries history) (all_runs ws)
    each_run ws made once = all_of_workers (HasEntries history) ws (all_splits (λ (w : ℕ × List (Run Q R T)). AllByRecursion (HasEntries history) w.1) [] ws (λ before w behind is. all_splits (HasEntries history) [] w.1 (λ b r a run. at_run before w behind is b r a run)))
      where
        at_run : (before : List (ℕ × List (Run Q R T))) (w : ℕ × List (Run Q R T)) (behind : List (ℕ × List (Run Q R T))) → ws ≡ before ++ w ∷ behind → (b : List (Run Q R T)) (r : Run Q R T) (a : List (Run Q R T)) → w.1 ≡ b ++ r ∷ a
            → HasEntries history r
        at_run before w behind is b r a run =
            let k : ℕ = r.number in
            let parts : times_run k (all_runs ws) ≡ times_run k (all_runs before) + times_run k (all_runs (w ∷ behind)) = ap (times_run k) (ap all_runs is ∙ all_runs_append before (w ∷ behind)) ∙ times_run_append k (all_runs before) (all_runs (w ∷ behind)) in
            let mine : times_run k (all_runs (w ∷ behind)) ≡ times_run k w.1 + times_run k (all_runs behind) = times_run_append k w.1 (all_runs behind) in
            let inside : times_run k w.1 ≡ times_run k b + times_run k (r ∷ a) = ap (times_run k) run ∙ times_run_append k b (r ∷ a) in
            let here : times_run k (r ∷ a) ≡ 1 + times_run k a = times_here k k (numbers_of a) refl in
            let most : times_run k (all_runs ws) ≤ 1 = once k in
            let all : v.made ≡ (first, []) ∷ (made_by_workers before ++ (w.0, entries_of w.1) ∷ made_by_workers behind) = made ∙ ap (λ l. (first, []) ∷ l) (ap made_by_workers is ∙ map_append (λ (x : ℕ × List (Run Q R T)). (x.0, entries_of x.1)) before (w ∷ behind)) in
            let others : AllByRecursion (λ (m : ℕ × List (Entry Q R)). m.0 ≢ w.0 → of_iteration k m.1 ≡ []) v.made = subst (AllByRecursion (λ (m : ℕ × List (Entry Q R)). m.0 ≢ w.0 → of_iteration k m.1 ≡ [])) (sym all) (
              (λ ne. refl),
              all_append (λ (m : ℕ × List (Entry Q R)). m.0 ≢ w.0 → of_iteration k m.1 ≡ []) (made_by_workers before) ((w.0, entries_of w.1) ∷ made_by_workers behind)
                  (all_map (λ (m : ℕ × List (Entry Q R)). of_iteration k m.1 ≡ []) (λ (m : ℕ × List (Entry Q R)). m.0 ≢ w.0 → of_iteration k m.1 ≡ []) (λ m h ne. h) (made_by_workers before) (none_made k before (omega arith)))
                  ((λ ne. absurd (ne refl)), all_map (λ (m : ℕ × List (Entry Q R)). of_iteration k m.1 ≡ []) (λ (m : ℕ × List (Entry Q R)). m.0 ≢ w.0 → of_iteration k m.1 ≡ []) (λ m h ne. h) (made_by_workers behind) (none_made k behind (omega arith))),
            ) in
            iteration_of takes after answer start v state history c k w.0 (entries_of w.1) (made_at c.log ((first, []) ∷ made_by_workers before) (w.0, entries_of w.1) (made_by_workers behind) (subst (IsMade c.log) all c.made))
            (λ j m fs there ne. all_at (λ (m : ℕ × List (Entry Q R)). m.0 ≢ w.0 → of_iteration k m.1 ≡ []) v.made j (m, fs) others there ne)
            ∙ (ap (λ l. of_iteration k (entries_of l)) run ∙ one_run_of b r a (omega arith) (omega arith))

    -- no entry is of another iteration
    pub no_others : (n : ℕ) (ws : List (ℕ × List (Run Q R T))) → v.made ≡ (first, []) ∷ made_by_workers ws → ((k : ℕ) → n ≤ k → times_run k (all_runs ws) ≡ 0) → AllByRecursion (λ (e : Entry Q R). e.iteration < n) history
    no_others n ws made none = all_below n history (λ k above.
        (let others : AllByRecursion (λ (m : ℕ × List (Entry Q R)). of_iteration k m.1 ≡ []) v.made = subst (AllByRecursion (λ (m : ℕ × List (Entry Q R)). of_iteration k m.1 ≡ [])) (sym made) (refl, none_made k ws (none k above)) in
        iteration_of takes after answer start v state history c k first [] (subst (IsMade c.log) made c.made).0 (λ j m fs there ne. all_at (λ (m : ℕ × List (Entry Q R)). of_iteration k m.1 ≡ []) v.made j (m, fs) others there)))

    -- the history of one worker is what it made
    pub one_worker : (w : ℕ × List (Run Q R T)) → v.made ≡ (first, []) ∷ made_by_workers (w ∷ []) → history ≡ entries_of w.1
    one_worker w made =
        let mine : IsMade c.log ((first, []) ∷ (w.0, entries_of w.1) ∷ []) = subst (IsMade c.log) made c.made in
        c.history_is ∙ (other_made first w.0 c.log (λ i m e there. two m (ℕ_discrete first m) (ℕ_discrete w.0 m) (ap (λ l. total (λ (x : ℕ × List (Entry Q R)). one_if m x.0) l) (sym made) ∙ c.own i m e there)) mine.0 ∙ mine.1.0)
      where
        two : (m : ℕ) → Dec (first ≡ m) → Dec (w.0 ≡ m) → one_if m first + (one_if m w.0 + 0) ≡ 1 → (m ≡ first) ⊎ (m ≡ w.0)
        two m (yes is) d one = inl (sym is)
        two m (no ne) (yes is) one = inr (sym is)
        two m (no ne) (no other) one = let a : one_if m first ≡ 0 = ap (λ b. cond b 1 0) (ne_eqb first m ne) in let b : one_if m w.0 ≡ 0 = ap (λ t. cond t 1 0) (ne_eqb w.0 m other) in absurd (omega arith)
