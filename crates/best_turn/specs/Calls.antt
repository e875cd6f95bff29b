-- What a call of a turn tells its caller, and what its steps tell each other.
use Rattle.std.specs.Prelude.{◌≡◌, ℕ, ◌<◌, true, List, [], ◌∷◌, ◌++◌, length, Some}
use Rattle.best_turn.specs.declared.replays.Entry.{Entry}
use Rattle.atomic_table.specs.Table.{Me}
use Rattle.best_turn.specs.declared.view.View.{View}
use Rattle.best_turn.specs.History.{entries, with_made, fold_of, IsLegal}

module _ {Q R : Type 0} where
  -- an entry of a history
  abbrev pub entry : ℕ → Q → R → Entry Q R
  entry iteration request reply = record { iteration = iteration; request = request; reply = reply }

  -- a seat's own number
  abbrev pub first_number : List (ℕ × List (Entry Q R)) → ℕ
  first_number [] = 0
  first_number (m ∷ ms) = m.0

  -- the seat's own number is n
  abbrev pub HasNumber : ℕ → List (ℕ × List (Entry Q R)) → Type 0
  HasNumber n made = (0 < length made) × (first_number made ≡ n)

module _ {S Q R : Type 0} where
  -- the book is with the seat, and this is true of it
  abbrev pub HoldsBook : Me (S × List (ℕ × Entry Q R)) (View S Q R) → (S × List (ℕ × Entry Q R) → Type 0) → Type 0
  HoldsBook me P = (d : S × List (ℕ × Entry Q R)) × (me.1 ≡ (0, d) ∷ []) × P d

  -- the state in the book went on by the request, and the call's entry stands last in it
  abbrev pub Pushed : (S → Q → S) → S × List (ℕ × Entry Q R) → ℕ → ℕ → Q → R → Me (S × List (ℕ × Entry Q R)) (View S Q R) → Type 0
  Pushed after d number iteration request reply me =
      (me.1 ≡ (0, (after d.0 request, d.1 ++ (number, entry iteration request reply) ∷ [])) ∷ []) × (length (d.1 ++ (number, entry iteration request reply) ∷ []) < 18446744073709551616)

  -- the book has the log that the seat has seen, and its fold
  abbrev pub IsWhole : (S → Q → S) → View S Q R → S × List (ℕ × Entry Q R) → Type 0
  IsWhole after v d = (v.has_turn ≡ true) × ((s : S) × (v.start ≡ Some s) × (d.0 ≡ fold_of after s (entries v.seen)) × (d.1 ≡ v.seen))

  -- the book has one entry more than the seat has seen, of the seat's own number, which is legal there
  abbrev pub IsNext : (S → Q → Type 0) → (S → Q → S) → (S → Q → R) → View S Q R → S × List (ℕ × Entry Q R) → Type 0
  IsNext takes after answer v d =
      (v.has_turn ≡ true) × (length d.1 < 18446744073709551616)
      × ((s : S) × (e : ℕ × Entry Q R) × (v.start ≡ Some s) × (d.1 ≡ v.seen ++ e ∷ []) × HasNumber e.0 v.made × takes (fold_of after s (entries v.seen)) e.1.request × (e.1.reply ≡ answer (fold_of after s (entries v.seen)) e.1.request))

module _ {S Q R : Type 0} (takes : S → Q → Type 0) (after : S → Q → S) (answer : S → Q → R) where
  -- A call was made: the history through it begins with what the seat had seen, is legal, and ends with the
  -- call's entry, whose reply is the state's there. The seat has made just this entry more. The front is the
  -- length of the history through the call.
  pub record Called (v : View S Q R) (iteration : ℕ) (request : Q) (reply : R) (front : ℕ) (w : View S Q R) : Type 0 where
    pub start : S
    pub number : ℕ
    pub between : List (ℕ × Entry Q R)
    pub begun : v.start ≡ Some start
    pub own : HasNumber number v.made
    pub seen : w.seen ≡ v.seen ++ between ++ (number, entry iteration request reply) ∷ []
    pub legal : IsLegal takes after answer start (entries w.seen)
    pub replied : reply ≡ answer (fold_of after start (entries (v.seen ++ between))) request
    pub made : w.made ≡ with_made (entry iteration request reply) v.made
    pub front_is : front ≡ length w.seen
    pub same : (w.start ≡ v.start) × (w.rest ≡ v.rest) × (length w.made ≡ length v.made)

  -- no call was made: the seat made nothing more, and may have seen more of the history
  pub record Looked (v w : View S Q R) : Type 0 where
    pub start : S
    pub between : List (ℕ × Entry Q R)
    pub begun : v.start ≡ Some start
    pub seen : w.seen ≡ v.seen ++ between
    pub legal : IsLegal takes after answer start (entries w.seen)
    pub same : (w.start ≡ v.start) × (w.made ≡ v.made) × (w.rest ≡ v.rest)
