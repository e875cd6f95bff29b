-- A history is a list of entries. It is legal where each entry's reply is the state's at its place, and its
-- fold is the state behind it. In a log each entry has the number of the seat that made it. A rule of this
-- project.
use Rattle.std.specs.Prelude.{◌≡◌, ◌==◌, ℕ, ◌+◌, List, [], ◌∷◌, ◌++◌, map, cond}
use Rattle.best_turn.specs.declared.replays.Entry.{Entry}

-- the sum of what each item counts
abbrev pub total : {X : Type 0} → (X → ℕ) → List X → ℕ
total f [] = 0
total f (x ∷ xs) = f x + total f xs

module _ {Q R : Type 0} where
  -- the entries of a log, without the numbers
  abbrev pub entries : List (ℕ × Entry Q R) → List (Entry Q R)
  entries log = map (λ x. x.1) log

  -- the entries of a log that the seat of number n made, in order
  abbrev pub made_by : ℕ → List (ℕ × Entry Q R) → List (Entry Q R)
  made_by n [] = []
  made_by n (x ∷ xs) = cond (x.0 == n) (x.1 ∷ made_by n xs) (made_by n xs)

  -- each number made in this log the entries beside it, in order, and no others
  abbrev pub IsMade : List (ℕ × Entry Q R) → List (ℕ × List (Entry Q R)) → Type 0
  IsMade log [] = Unit {0}
  IsMade log (m ∷ ms) = (made_by m.0 log ≡ m.1) × IsMade log ms

  -- the first number made this entry too, after its others
  abbrev pub with_made : Entry Q R → List (ℕ × List (Entry Q R)) → List (ℕ × List (Entry Q R))
  with_made e [] = []
  with_made e (m ∷ ms) = (m.0, m.1 ++ e ∷ []) ∷ ms

  -- the state behind a history that began at s
  abbrev pub fold_of : {S : Type 0} → (S → Q → S) → S → List (Entry Q R) → S
  fold_of after s [] = s
  fold_of after s (e ∷ es) = fold_of after (after s e.request) es

  module _ {S : Type 0} (takes : S → Q → Type 0) (after : S → Q → S) (answer : S → Q → R) where
    -- a history is legal from s where each request is taken, and each reply is given, by the state behind the
    -- entries before it
    abbrev pub IsLegal : S → List (Entry Q R) → Type 0
    IsLegal s [] = Unit {0}
    IsLegal s (e ∷ es) = takes s e.request × (e.reply ≡ answer s e.request) × IsLegal (after s e.request) es

  -- the entries made in the name of one iteration, in order
  abbrev pub of_iteration : ℕ → List (Entry Q R) → List (Entry Q R)
  of_iteration k [] = []
  of_iteration k (e ∷ es) = cond (e.iteration == k) (e ∷ of_iteration k es) (of_iteration k es)
