-- What holds of a turn between any two steps, and what each step tells. Word 0 is 1 while a seat has the
-- turn, or 2 where another seat may sleep until it is free; word 1 is the length of the history, and the slot
-- holds the book: the state and the history.
use Rattle.std.specs.Prelude.{◌≡◌, ◌≢◌, ◌==◌, ℕ, ◌+◌, ◌-◌, ◌<◌, ◌≤◌, Bool, true, false, cond, List, [], ◌∷◌, ◌++◌, length, max, nat_lt, Some, None}
use mathlib.Core.List.{IsPrefix}
use mathlib.Core.Option as maybe
use mathlib.Core.Option.{some, none}
use lib.ListN.{get_elem?}
use Rattle.atomic_table.specs.Table.{State, Me, Step}
use Rattle.best_turn.specs.declared.replays.Entry.{Entry}
use Rattle.best_turn.specs.declared.view.View.{View}
use Rattle.best_turn.specs.History.{total, entries, IsMade, with_made, fold_of, IsLegal}

-- how many numbers there are for seats, the first seat's own among them: 2^32 + 1
abbrev pub all_numbers : ℕ
all_numbers = 4294967297

-- 1 where two numbers are the same, else 0
abbrev pub one_if : ℕ → ℕ → ℕ
one_if n m = cond (m == n) 1 0

-- the longer of two lists
abbrev pub longer : {X : Type 0} → List X → List X → List X
longer xs ys = cond (nat_lt (length xs) (length ys)) ys xs

-- the word that says whether a seat has the turn, and then whether another may sleep
abbrev pub word_of : Bool → Bool → ℕ
word_of true sleepers = cond sleepers 2 1
word_of false sleepers = 0

module _ {S Q R : Type 0} where
  -- the book is at home exactly while no seat has the turn
  abbrev pub home_of : Bool → S × List (ℕ × Entry Q R) → maybe.Option (S × List (ℕ × Entry Q R))
  home_of true d = none
  home_of false d = some d

  -- how often a view holds a number
  abbrev pub holds_number : ℕ → View S Q R → ℕ
  holds_number n v = total (λ m. one_if n m.0) v.made

  -- how many numbers a view holds
  abbrev pub count_numbers : View S Q R → ℕ
  count_numbers v = length v.made

  -- the view of a seat that was joined into another
  abbrev pub spent : View S Q R
  spent = record { start = None; seen = []; made = []; rest = 0; has_turn = false }

  -- the view of a seat that made nothing yet: it has seen this log, holds this number and may give so many more
  abbrev pub newcomer : S → List (ℕ × Entry Q R) → ℕ → ℕ → View S Q R
  newcomer s seen number rest = record { start = Some s; seen = seen; made = (number, []) ∷ []; rest = rest; has_turn = false }

  -- the view of a seat that took the turn, and saw this log
  abbrev pub took : View S Q R → List (ℕ × Entry Q R) → View S Q R
  took v log = record { start = v.start; seen = log; made = v.made; rest = v.rest; has_turn = true }

  -- the view of a seat whose entry was counted: it is the last of the log, and the seat made it
  abbrev pub counted : View S Q R → ℕ × Entry Q R → View S Q R
  counted v e = record { start = v.start; seen = v.seen ++ e ∷ []; made = with_made e.1 v.made; rest = v.rest; has_turn = v.has_turn }

  -- the view of a seat that gave the turn up
  abbrev pub gave : View S Q R → View S Q R
  gave v = record { start = v.start; seen = v.seen; made = v.made; rest = v.rest; has_turn = false }

  -- the view of a seat that gave a number to a new seat
  abbrev pub gave_number : View S Q R → View S Q R
  gave_number v = record { start = v.start; seen = v.seen; made = v.made; rest = v.rest - 1; has_turn = v.has_turn }

  -- the view of the new seat: it has seen as much, and made nothing under the number that it was given
  abbrev pub split_off : View S Q R → View S Q R
  split_off v = record { start = v.start; seen = v.seen; made = (all_numbers - v.rest, []) ∷ []; rest = 0; has_turn = false }

  -- two views as one: the longer log, the numbers of both with what was made under each, and what may still be given
  abbrev pub both : View S Q R → View S Q R → View S Q R
  both v w = record { start = v.start; seen = longer v.seen w.seen; made = v.made ++ w.made; rest = max v.rest w.rest; has_turn = v.has_turn }

  -- what the rule says of one view: it saw a front of the log, each number's entries are those that it made,
  -- only the holder of the turn says that it has it, and then it saw the whole log, and only the keeper has
  -- numbers to give
  pub record Fits (start : S) (log : List (ℕ × Entry Q R)) (turn : Bool) (holder keeper rest i : ℕ) (v : View S Q R) : Type 0 where
    pub begun : (s : S) → v.start ≡ Some s → s ≡ start
    pub seen : IsPrefix v.seen log
    pub made : IsMade log v.made
    pub turned : v.has_turn ≡ true → (turn ≡ true) × (i ≡ holder) × (v.seen ≡ log) × (0 < length v.made)
    pub free : 0 < v.rest → (i ≡ keeper) × (v.rest ≡ rest)

  module _ (takes : S → Q → Type 0) (after : S → Q → S) (answer : S → Q → R) where
    -- The two words and the slot show a legal history and its fold. The slot is home exactly where the turn is
    -- free, and one view has the turn where it isn't. Each number that was given is held once, those that were
    -- not are held nowhere, and the numbers held and those still to give are all that there are.
    pub record Kept (start : S) (t : State (S × List (ℕ × Entry Q R)) (View S Q R)) : Type 0 where
      pub log : List (ℕ × Entry Q R)
      pub turn : Bool
      pub sleepers : Bool
      pub holder : ℕ
      pub keeper : ℕ
      pub rest : ℕ
      pub words : t.words ≡ word_of turn sleepers ∷ length log ∷ []
      pub home : t.homes ≡ home_of turn (fold_of after start (entries log), log) ∷ []
      pub legal : IsLegal takes after answer start (entries log)
      pub held : turn ≡ true → (v : View S Q R) × (get_elem? t.views holder ≡ some v) × (v.has_turn ≡ true)
      pub each : (i : ℕ) (v : View S Q R) → get_elem? t.views i ≡ some v → Fits start log turn holder keeper rest i v
      pub once : (n : ℕ) → (n < all_numbers - rest → total (holds_number n) t.views ≡ 1) × (all_numbers - rest ≤ n → total (holds_number n) t.views ≡ 0)
      pub given : total count_numbers t.views + rest ≡ all_numbers
      pub known : (n : ℕ) (e : Entry Q R) (k : ℕ) → get_elem? log k ≡ some (n, e) → n < all_numbers - rest

    -- the book came to the seat, which has seen the history on it
    abbrev pub Takes : Me (S × List (ℕ × Entry Q R)) (View S Q R) → Me (S × List (ℕ × Entry Q R)) (View S Q R) → Type 0
    Takes v w = (start : S) × (log : List (ℕ × Entry Q R)) × (v.0.start ≡ Some start) × IsPrefix v.0.seen log × IsLegal takes after answer start (entries log) × (w ≡ (took v.0 log, (0, (fold_of after start (entries log), log)) ∷ v.1))

    -- a take that found 0 won the turn, else nothing changed
    abbrev pub take_tells : Step (S × List (ℕ × Entry Q R)) → Me (S × List (ℕ × Entry Q R)) (View S Q R) → ℕ → Me (S × List (ℕ × Entry Q R)) (View S Q R) → Type 0
    take_tells s v n w = (n ≡ 0 → Takes v w) × (n ≢ 0 → w ≡ v)

  -- a seat that says that it may sleep learns nothing
  abbrev pub warn_tells : Step (S × List (ℕ × Entry Q R)) → Me (S × List (ℕ × Entry Q R)) (View S Q R) → ℕ → Me (S × List (ℕ × Entry Q R)) (View S Q R) → Type 0
  warn_tells s v n w = w ≡ v

  -- where the book that the seat holds has one entry more than the log that it saw, that entry is counted
  abbrev pub Counts : View S Q R → List (ℕ × (S × List (ℕ × Entry Q R))) → View S Q R → Type 0
  Counts v held w = (d : S × List (ℕ × Entry Q R)) (e : ℕ × Entry Q R) → held ≡ (0, d) ∷ [] → d.1 ≡ v.seen ++ e ∷ [] → w ≡ counted v e

  -- a count found the length of the log before it
  abbrev pub count_tells : Step (S × List (ℕ × Entry Q R)) → Me (S × List (ℕ × Entry Q R)) (View S Q R) → ℕ → Me (S × List (ℕ × Entry Q R)) (View S Q R) → Type 0
  count_tells s v n w = (n ≡ length v.0.seen) × (w.1 ≡ v.1) × Counts v.0 v.1 w.0

  -- the turn is given up, and the book is home
  abbrev pub give_tells : Step (S × List (ℕ × Entry Q R)) → Me (S × List (ℕ × Entry Q R)) (View S Q R) → ℕ → Me (S × List (ℕ × Entry Q R)) (View S Q R) → Type 0
  give_tells s v n w = w ≡ (gave v.0, [])

module _ {S Q R : Type 0} (takes : S → Q → Type 0) (after : S → Q → S) (answer : S → Q → R) where
  -- What the last seat learns: the history is legal, the state is its fold, the entries of each number that the
  -- seat holds are, in order, those that were made under it, and each entry is of a number that it holds
  pub record Closes (start : S) (v : View S Q R) (state : S) (history : List (Entry Q R)) : Type 0 where
    pub log : List (ℕ × Entry Q R)
    pub history_is : history ≡ entries log
    pub legal : IsLegal takes after answer start history
    pub state_is : state ≡ fold_of after start history
    pub seen : IsPrefix v.seen log
    pub made : IsMade log v.made
    pub own : (k n : ℕ) (e : Entry Q R) → get_elem? log k ≡ some (n, e) → holds_number n v ≡ 1
