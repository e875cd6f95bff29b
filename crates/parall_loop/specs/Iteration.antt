-- What an iteration does: after each list of replies it asks a request or ends with an outcome. A rule of this
-- project.
use Rattle.std.specs.Prelude.{◌≡◌, ℕ, zero, suc, ◌<◌, Option, None, Some, List, [], ◌∷◌, ◌++◌, map}
use Rattle.std.specs.Option.{option_map}
use Rattle.std.specs.List.{AllByRecursion}
use Rattle.best_turn.specs.declared.replays.Entry.{Entry}
use Rattle.best_turn.specs.History.{of_iteration, IsLegal}
use Rattle.best_monitor.specs.declared.port.PortStop.{PortStop}
use Rattle.best_monitor.specs.declared.port.PortStop.TheVariants.{NoMemory, Differs}
use Rattle.best_monitor.specs.Port.{Odds, StopsAsTold}

-- what comes next
pub data Next (Q T : Type 0) : Type 0 where
  Asks : Q → Next Q T
  Ends : T → Next Q T

module _ {Q R : Type 0} where
  -- the requests of some entries, with their replies
  abbrev pub asked_of : List (Entry Q R) → List (Q × R)
  asked_of entries = map (λ e. (e.request, e.reply)) entries

  abbrev pub replies_of : List (Q × R) → List R
  replies_of asked = map (λ x. x.1) asked

  -- where a rest is told, it was what was asked, and then what is left of it
  abbrev pub with_asked : List (Q × R) → Option (List (Q × R)) → Option (List (Q × R))
  with_asked asked rest = option_map (λ left. asked ++ left) rest

  -- what the entries of a history say that this iteration asked, in order
  abbrev pub asked_by : ℕ → List (Entry Q R) → List (Q × R)
  asked_by k history = asked_of (of_iteration k history)

  -- the entries of so many iterations from k on, one iteration after the other
  abbrev pub one_by_one : List (Entry Q R) → ℕ → ℕ → List (Entry Q R)
  one_by_one history k zero = []
  one_by_one history k (suc more) = of_iteration k history ++ one_by_one history (suc k) more

  module _ {T : Type 0} where
    -- behind these replies, just these requests are asked, where they are replied to so
    abbrev pub Follows : (List R → Next Q T) → List R → List (Q × R) → Type 0
    Follows asks replies [] = Unit {0}
    Follows asks replies (x ∷ xs) = (asks replies ≡ Asks x.0) × Follows asks (replies ++ x.1 ∷ []) xs

    -- behind these requests, replied to so, this is what comes next
    abbrev pub then_comes : (List R → Next Q T) → List (Q × R) → Next Q T
    then_comes asks asked = asks (replies_of asked)

    module _ {S : Type 0} (takes : S → Q → Type 0) (after : S → Q → S) (answer : S → Q → R) where
      -- A history fits a loop of n iterations with these outcomes, in order: it is legal, each entry is of one of
      -- the iterations, and the entries of each iteration are just what it asks before it ends with its outcome.
      pub record Fits (start : S) (asks : ℕ → List R → Next Q T) (n : ℕ) (outcome : ℕ → T) (history : List (Entry Q R)) : Type 0 where
        pub legal : IsLegal takes after answer start history
        pub numbers : AllByRecursion (λ e. e.iteration < n) history
        pub asked : (k : ℕ) → k < n → Follows (asks k) [] (asked_by k history)
        pub ended : (k : ℕ) → k < n → then_comes (asks k) (asked_by k history) ≡ Ends (outcome k)

module _ {Q R T : Type 0} where
  -- Just these requests were asked, replied to so. If the iteration wasn't cut, it then ended with this outcome.
  pub record Runs (asks : List R → Next Q T) (stop : Option PortStop) (asked : List (Q × R)) (outcome : T) : Type 0 where
    pub follows : Follows asks [] asked
    pub ends : stop ≡ None → then_comes asks asked ≡ Ends outcome

  -- An iteration that was cut broke off for want of memory, or where it asked a request with which the rest that was
  -- left to replay doesn't begin, and then by the odds of that request.
  abbrev pub CutAsTold : Next Q T → Option (List (Q × R)) → (Q → Odds) → Option PortStop → Type 0
  CutAsTold next rest odds None = Unit {0}
  CutAsTold (Asks q) rest odds (Some stop) = StopsAsTold rest q (odds q) stop
  CutAsTold (Ends outcome) rest odds (Some stop) = stop ≡ NoMemory

-- an iteration that was cut broke off for want of memory
abbrev pub CutForMemory : Option PortStop → Type 0
CutForMemory None = Unit {0}
CutForMemory (Some NoMemory) = Unit {0}
CutForMemory (Some (Differs line asked had)) = ⊥

-- The same of an iteration over a seat. Such a port never differs, so that one is cut for want of memory alone.
abbrev pub RunsOnSeat : {Q R T : Type 0} → (List R → Next Q T) → Option PortStop → List (Q × R) → T → Type 0
RunsOnSeat asks stop asked outcome = Runs asks stop asked outcome × CutForMemory stop
