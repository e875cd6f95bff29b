-- What was asked through a port stands in its seat behind all that the seat had made before.
use Rattle.std.proofs.Common.{◌≡◌, ℕ, ◌<◌, List, [], ◌∷◌, ◌++◌, length, map, refl, ap, subst, sym, ◌∙◌, arith, append_assoc, Option, None, Some}
use Rattle.std.proofs.lemmas.List.{append-nil, drop_at, drop_all}
use Rattle.best_turn.specs.declared.replays.Entry.{Entry}
use Rattle.best_turn.specs.History.{with_made}
use Rattle.best_turn.specs.Calls.{entry}
use Rattle.best_turn.specs.Seated.{TableId}
use Rattle.best_turn.specs.declared.view.View.{View}
use Rattle.best_turn.specs.Seats.{IsSeatOf}
use Rattle.best_monitor.specs.Port.{SeatBase, Base, OverSeat, OverJournal, entries_for, with_all, own_entries, asked_since, base_of, MadeSince}

module _ {Q R : Type 0} where
  abbrev pair_of : Entry Q R → Q × R
  pair_of e = (e.request, e.reply)

  pairs_of : (k : ℕ) (asked : List (Q × R)) → map pair_of (entries_for k asked) ≡ asked
  pairs_of k [] = refl
  pairs_of k (x ∷ xs) = ap (λ l. x ∷ l) (pairs_of k xs)

  -- what was asked is found again behind what was made before
  found : (k : ℕ) (asked : List (Q × R)) (before : List (ℕ × List (Entry Q R))) → 0 < length before → asked_since before (with_all (entries_for k asked) before) ≡ asked
  found k asked [] some_number = absurd (omega arith)
  found k asked (m ∷ ms) some_number = ap (map pair_of) (drop_at m.1 (entries_for k asked) (length m.1) refl) ∙ pairs_of k asked

  entries_push : (k : ℕ) (asked : List (Q × R)) (x : Q × R) → entries_for k (asked ++ x ∷ []) ≡ entries_for k asked ++ entry k x.0 x.1 ∷ []
  entries_push k [] x = refl
  entries_push k (y ∷ ys) x = ap (λ l. entry k y.0 y.1 ∷ l) (entries_push k ys x)

  -- one entry more
  one_more : (k : ℕ) (q : Q) (r : R) (asked : List (Q × R)) (before : List (ℕ × List (Entry Q R))) → with_made (entry k q r) (with_all (entries_for k asked) before) ≡ with_all (entries_for k (asked ++ (q, r) ∷ [])) before
  one_more k q r asked [] = refl
  one_more k q r asked (m ∷ ms) = ap (λ l. (m.0, l) ∷ ms) (append_assoc m.1 (entries_for k asked) (entry k q r ∷ []) ∙ ap (λ l. m.1 ++ l) (sym (entries_push k asked (q, r))))

  some_before : (es : List (Entry Q R)) (before : List (ℕ × List (Entry Q R))) → 0 < length (with_all es before) → 0 < length before
  some_before es [] h = h
  some_before es (m ∷ ms) h = h

  -- after a call one request and reply more were asked
  pub asked_more : (k : ℕ) (q : Q) (r : R) (before now next : List (ℕ × List (Entry Q R))) → now ≡ with_all (entries_for k (asked_since before now)) before → 0 < length now → next ≡ with_made (entry k q r) now
      → asked_since before next ≡ asked_since before now ++ (q, r) ∷ []
  asked_more k q r before now next since own made =
      let asked : List (Q × R) = asked_since before now in
      let is : next ≡ with_all (entries_for k (asked ++ (q, r) ∷ [])) before = made ∙ (ap (with_made (entry k q r)) since ∙ one_more k q r asked before) in
      ap (asked_since before) is ∙ found k (asked ++ (q, r) ∷ []) before (some_before (entries_for k asked) before (subst (λ l. 0 < length l) since own))

  pub since_more : (k : ℕ) (q : Q) (r : R) (before now next : List (ℕ × List (Entry Q R))) → now ≡ with_all (entries_for k (asked_since before now)) before → 0 < length now → next ≡ with_made (entry k q r) now
      → next ≡ with_all (entries_for k (asked_since before next)) before
  since_more k q r before now next since own made =
      made ∙ (ap (with_made (entry k q r)) since ∙ (one_more k q r (asked_since before now) before ∙ ap (λ l. with_all (entries_for k l) before) (sym (asked_more k q r before now next since own made))))

  -- nothing was asked yet
  pub none_asked : (made : List (ℕ × List (Entry Q R))) → asked_since made made ≡ []
  none_asked made = ap (map pair_of) (drop_all (length (own_entries made)) (own_entries made) (omega arith))

  with_none : (made : List (ℕ × List (Entry Q R))) → with_all [] made ≡ made
  with_none [] = refl
  with_none (m ∷ ms) = ap (λ l. (m.0, l) ∷ ms) (append-nil m.1)

  with_all-length : (es : List (Entry Q R)) (before : List (ℕ × List (Entry Q R))) → length (with_all es before) ≡ length before
  with_all-length es [] = refl
  with_all-length es (m ∷ ms) = refl

  module _ {S : Type 0} where
    pub since_start : (k : ℕ) (seat : TableId × View S Q R) → MadeSince k seat seat
    since_start k seat = record { turn = refl; start = refl; rest = refl; made = sym (ap (λ l. with_all (entries_for k l) seat.1.made) (none_asked seat.1.made) ∙ with_none seat.1.made) }

    -- a call keeps this
    pub since_call : (k : ℕ) (q : Q) (r : R) (before now next : TableId × View S Q R) → MadeSince k before now → 0 < length now.1.made → next.0 ≡ now.0 → next.1.start ≡ now.1.start → next.1.rest ≡ now.1.rest → next.1.made ≡ with_made (entry k q r) now.1.made → MadeSince k before next
    since_call k q r before now next m own turn start rest made = record { turn = turn ∙ m.turn; start = start ∙ m.start; rest = rest ∙ m.rest; made = since_more k q r before.1.made now.1.made next.1.made m.made own made }

    -- a call that found no memory keeps it
    pub since_look : (k : ℕ) (before now next : TableId × View S Q R) → MadeSince k before now → next.0 ≡ now.0 → next.1.start ≡ now.1.start → next.1.made ≡ now.1.made → next.1.rest ≡ now.1.rest → MadeSince k before next
    since_look k before now next m turn start made rest = record {
      turn = turn ∙ m.turn;
      start = start ∙ m.start;
      rest = rest ∙ m.rest;
      made = subst (λ l. l ≡ with_all (entries_for k (asked_since before.1.made l)) before.1.made) (sym made) m.made;
    }

    -- What the base of a port tells of its seat: it is of the turn of the seat that the port was opened over, and made behind that seat's entries what was asked
    pub seat_of_base : (turn : TableId × S) (j k : ℕ) (seat before next : TableId × View S Q R) → ◌≡◌ {A = Option (Base S Q R)} (Some (OverSeat (base_of before j))) (Some (OverSeat (base_of seat k))) → MadeSince j before next → IsSeatOf turn seat
        → IsSeatOf turn next × (next.1.rest ≡ seat.1.rest) × (length next.1.made ≡ length seat.1.made) × (next.1.made ≡ with_all (entries_for k (asked_since before.1.made next.1.made)) seat.1.made)
    seat_of_base turn j k seat before next same m own =
        let base : base_of before j ≡ base_of seat k = ap (base_or (base_of before j)) same in
        let made : next.1.made ≡ with_all (entries_for k (asked_since before.1.made next.1.made)) seat.1.made = m.made ∙ ap (λ (b : SeatBase S Q R). with_all (entries_for b.iteration (asked_since before.1.made next.1.made)) b.made) base in (
          (m.turn ∙ (ap (λ b. b.turn) base ∙ own.0), m.start ∙ (ap (λ b. b.start) base ∙ own.1)),
          m.rest ∙ ap (λ b. b.rest) base,
          ap (λ (l : List (ℕ × List (Entry Q R))). length l) made ∙ with_all-length (entries_for k (asked_since before.1.made next.1.made)) seat.1.made,
          made,
        )
      where
        base_or : SeatBase S Q R → Option (Base S Q R) → SeatBase S Q R
        base_or d None = d
        base_or d (Some (OverSeat b)) = b
        base_or d (Some (OverJournal b)) = d
