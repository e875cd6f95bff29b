-- The core of a loop: at each step one iteration is chosen. If it has a request, the state answers it, and the
-- entry is appended to the history; otherwise nothing changes. A rule of this project.
use Rattle.std.specs.Prelude.{◌≡◌, ℕ, ◌<◌, List, [], ◌∷◌, ◌++◌, map}
use Rattle.std.specs.List.{AllByRecursion}
use Rattle.best_turn.specs.declared.replays.Entry.{Entry}
use Rattle.best_turn.specs.History.{fold_of, IsLegal}
use Rattle.best_turn.specs.Calls.{entry}
use Rattle.parall_loop.specs.Iteration.{Next, Asks, Ends, asked_by, Follows, then_comes, Fits}

module _ {S Q R T : Type 0} (takes : S → Q → Type 0) (after : S → Q → S) (answer : S → Q → R) (start : S) (asks : ℕ → List R → Next Q T) where
  -- an iteration with what comes next in it
  abbrev pub moved : ℕ → List (Entry Q R) → Next Q T → List (Entry Q R)
  moved k history (Asks q) = history ++ entry k q (answer (fold_of after start history) q) ∷ []
  moved k history (Ends t) = history

  abbrev pub step : List (Entry Q R) → ℕ → List (Entry Q R)
  step history k = moved k history (then_comes (asks k) (asked_by k history))

  -- the history of a schedule, behind this one
  abbrev pub scheduled : List (Entry Q R) → List ℕ → List (Entry Q R)
  scheduled history [] = history
  scheduled history (k ∷ ks) = scheduled (step history k) ks

  -- the iterations below n ask only what the state takes
  abbrev pub MayAsk : ℕ → Type 0
  MayAsk n = (k : ℕ) (replies : List R) (q : Q) → k < n → asks k replies ≡ Asks q → takes start q

  -- a history is legal, and each iteration's entries are a front of what it asks
  pub record IsUnderWay (n : ℕ) (history : List (Entry Q R)) : Type 0 where
    pub legal : IsLegal takes after answer start history
    pub numbers : AllByRecursion (λ e. e.iteration < n) history
    pub asked : (k : ℕ) → k < n → Follows (asks k) [] (asked_by k history)

  -- The law: on every schedule, and so at each point of it, the history is under way. Where all iterations have
  -- ended it fits. Each history that fits is that of its own list of iteration numbers.
  pub record Schedules (n : ℕ) : Type 0 where
    pub at_each_point : (numbers : List ℕ) → AllByRecursion (λ k. k < n) numbers → IsUnderWay n (scheduled [] numbers)
    pub at_the_end : (numbers : List ℕ) (outcome : ℕ → T) → AllByRecursion (λ k. k < n) numbers
        → ((k : ℕ) → k < n → then_comes (asks k) (asked_by k (scheduled [] numbers)) ≡ Ends (outcome k))
        → Fits takes after answer start asks n outcome (scheduled [] numbers)
    pub by_its_numbers : (outcome : ℕ → T) (history : List (Entry Q R)) → Fits takes after answer start asks n outcome history → scheduled [] (map (λ e. e.iteration) history) ≡ history
