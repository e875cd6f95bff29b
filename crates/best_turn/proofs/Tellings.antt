-- What the parts of a call tell together.
use Rattle.std.proofs.Common.{◌≡◌, ◌↔◌, ℕ, ◌+◌, ◌<◌, List, [], ◌∷◌, ◌++◌, length, refl, ap, ap₂, subst, sym, ◌∙◌, arith, length-append}
use Rattle.std.specs.Prelude.{Option, Some, None, Result, Ok, Err, MatchResult}
use mathlib.Core.List.{IsPrefix}
use Rattle.atomic_table.specs.Table.{Me, rest}
use Rattle.best_turn.specs.declared.replays.Entry.{Entry}
use Rattle.best_turn.specs.declared.view.View.{View}
use Rattle.best_turn.specs.History.{entries, fold_of, IsLegal}
use Rattle.best_turn.specs.Rule.{took, counted, gave, Takes, Counts}
use Rattle.best_turn.specs.Calls.{entry, HasNumber, HoldsBook, Pushed, IsNext, IsWhole, Called, Looked}
use Rattle.best_turn.proofs.Histories.{with_made-length, entries-push, fold_push, legal_push, still}

abbrev of_some : {S : Type 0} → S → Option S → S
of_some d (Some x) = x
of_some d None = d

abbrev first_of_pairs : {X : Type 0} → X → List (ℕ × X) → X
first_of_pairs d [] = d
first_of_pairs d (x ∷ xs) = x.1

module _ {S Q R X : Type 0} (after : S → Q → S) (answer : S → Q → R) where
  pub asks : (number iteration : ℕ) (request : Q) (held : List (ℕ × (S × List (ℕ × Entry Q R)))) (v : View S Q R) (d now : S × List (ℕ × Entry Q R)) (result : Result R X) → rest held ≡ []
      → MatchResult result (λ r. (r ≡ answer d.0 request) × (now ≡ (after d.0 request, d.1 ++ (number, entry iteration request r) ∷ [])) × (length now.1 < 18446744073709551616)) (λ _. now ≡ d)
      → MatchResult result (λ r. (r ≡ answer d.0 request) × Pushed after d number iteration request r (v, (0, now) ∷ rest held)) (λ _. ◌≡◌ {A = List (ℕ × (S × List (ℕ × Entry Q R)))} ((0, now) ∷ rest held) ((0, d) ∷ []))
  asks number iteration request held v d now (Ok r) none_left told = (told.0, ((λ k. (0, told.1 k) ∷ none_left k), subst (λ (z : S × List (ℕ × Entry Q R)). length z.1 < 18446744073709551616) told.1 told.2))
  asks number iteration request held v d now (Err e) none_left told = λ k. (0, told k) ∷ none_left k

module _ {S Q R : Type 0} (takes : S → Q → Type 0) (after : S → Q → S) (answer : S → Q → R) (law : (s : S) (q p : Q) → takes s q → (takes (after s q) p ↔ takes s p)) (me : Me (S × List (ℕ × Entry Q R)) (View S Q R)) (start : S) (empty : me.1 ≡ []) (begun : me.0.start ≡ Some start) where
  abbrev D : Type 0
  D = S × List (ℕ × Entry Q R)

  abbrev M : Type 0
  M = Me D (View S Q R)

  -- the seat after the turn was taken, at this history
  abbrev Held : List (ℕ × Entry Q R) → M
  Held log = (took me.0 log, (0, (fold_of after start (entries log), log)) ∷ [])

  -- the same with one more entry on the book
  abbrev Added : List (ℕ × Entry Q R) → ℕ × Entry Q R → M
  Added log e = (took me.0 log, (0, (after (fold_of after start (entries log)) e.1.request, log ++ e ∷ [])) ∷ [])

  abbrev Counted : List (ℕ × Entry Q R) → ℕ × Entry Q R → M
  Counted log e = (counted (took me.0 log) e, (0, (after (fold_of after start (entries log)) e.1.request, log ++ e ∷ [])) ∷ [])

  abbrev Taken : M → Type 0
  Taken m = (log : List (ℕ × Entry Q R)) × IsPrefix me.0.seen log × IsLegal takes after answer start (entries log) × (m ≡ Held log)

  pub taken_is : (m : M) → Takes takes after answer me m → Taken m
  taken_is m t =
      let same : t.0 ≡ start = ap (of_some start) (sym t.2 ∙ begun) in (
        t.1,
        t.3,
        subst (λ (s : S). IsLegal takes after answer s (entries t.1)) same t.4,
        t.5 ∙ ap₂ (λ (s : S) (l : List (ℕ × D)). (took me.0 t.1, (0, (fold_of after s (entries t.1), t.1)) ∷ l)) same empty,
      )

  pub may_ask : (m : M) (request : Q) → Takes takes after answer me m → takes start request → HoldsBook m (λ d. takes d.0 request)
  may_ask m request t may = let k = taken_is m t in ((fold_of after start (entries k.0), k.0), ap (λ (z : M). z.1) k.3, still takes after answer law start (entries k.0) request k.2 may)

  -- an answer that found no memory left the book as it was
  pub whole_again : (m n : M) → Takes takes after answer me m → n.0 ≡ m.0 → HoldsBook m (λ d. n.1 ≡ (0, d) ∷ []) → HoldsBook n (λ d. IsWhole after n.0 d)
  whole_again m n t same held =
      let k = taken_is m t in
      let is : n ≡ Held k.0 = λ i. ((same ∙ ap (λ (z : M). z.0) k.3) i, (held.2 ∙ (sym held.1 ∙ ap (λ (z : M). z.1) k.3)) i) in
      subst (λ (z : M). HoldsBook z (λ d. IsWhole after z.0 d)) (sym is) ((fold_of after start (entries k.0), k.0), refl, (refl, (start, begun, refl, refl)))

  pub looks : (m n o : M) → Takes takes after answer me m → n.0 ≡ m.0 → o ≡ (gave n.0, []) → Looked takes after answer me.0 o.0
  looks m n o t same given =
      let k = taken_is m t in
      let is : o.0 ≡ gave (took me.0 k.0) = ap (λ (z : M). z.0) given ∙ ap gave (same ∙ ap (λ (z : M). z.0) k.3) in
      record { start = start; between = k.1.0; begun = begun; seen = ap (λ v. v.seen) is ∙ sym k.1.1; legal = subst (λ v. IsLegal takes after answer start (entries v.seen)) (sym is) k.2; same = (ap (λ v. v.start) is, ap (λ v. v.made) is, ap (λ v. v.rest) is) }

  module _ (number iteration : ℕ) (request : Q) (reply : R) (m n : M) (t : Takes takes after answer me m) (same : n.0 ≡ m.0) (asked : HoldsBook m (λ d. (reply ≡ answer d.0 request) × Pushed after d number iteration request reply n)) (own : HasNumber number me.0.made) (may : takes start request) where
    abbrev e : ℕ × Entry Q R
    e = (number, entry iteration request reply)

    abbrev log : List (ℕ × Entry Q R)
    log = (taken_is m t).0

    book_is : asked.0 ≡ (fold_of after start (entries log), log)
    book_is = ap (first_of_pairs asked.0) (sym asked.1 ∙ ap (λ (z : M). z.1) (taken_is m t).3)

    added_is : n ≡ Added log e
    added_is = λ i. ((same ∙ ap (λ (z : M). z.0) (taken_is m t).3) i, (asked.2.1.0 ∙ ap (λ (d : D). (0, (after d.0 request, d.1 ++ e ∷ [])) ∷ []) book_is) i)

    replied : reply ≡ answer (fold_of after start (entries log)) request
    replied = asked.2.0 ∙ ap (λ (d : D). answer d.0 request) book_is

    may_here : takes (fold_of after start (entries log)) request
    may_here = still takes after answer law start (entries log) request (taken_is m t).2 may

    -- the request can have the reply
    pub had : (can : Q → R → Type 0) → ((s : S) (q : Q) → takes s q → can q (answer s q)) → can request reply
    had can answers = subst (λ (r : R). can request r) (sym replied) (answers (fold_of after start (entries log)) request may_here)

    short : length (log ++ e ∷ []) < 18446744073709551616
    short = subst (λ (d : D). length (d.1 ++ e ∷ []) < 18446744073709551616) book_is asked.2.1.1

    pub may_count : HoldsBook n (λ d. IsNext takes after answer n.0 d)
    may_count = subst (λ (z : M). HoldsBook z (λ d. IsNext takes after answer z.0 d)) (sym added_is)
        ((after (fold_of after start (entries log)) request, log ++ e ∷ []), refl, (refl, short, (start, e, begun, refl, own, may_here, replied)))

    module _ (o : M) (held : o.1 ≡ n.1) (counts : Counts n.0 n.1 o.0) where
      counted_is : o ≡ Counted log e
      counted_is =
          let here : o.0 ≡ counted n.0 e = counts (after (fold_of after start (entries log)) request, log ++ e ∷ []) e (ap (λ (z : M). z.1) added_is) (ap (λ (z : M). z.0.seen ++ e ∷ []) (sym added_is)) in
          λ i. ((here ∙ ap (λ (z : M). counted z.0 e) added_is) i, (held ∙ ap (λ (z : M). z.1) added_is) i)

      pub may_give : HoldsBook o (λ d. IsWhole after o.0 d)
      may_give = subst (λ (z : M). HoldsBook z (λ d. IsWhole after z.0 d)) (sym counted_is) (
        (after (fold_of after start (entries log)) request, log ++ e ∷ []),
        refl,
        (refl, (start, begun, sym (ap (fold_of after start) (entries-push log e) ∙ fold_push takes after answer start (entries log) e.1), refl)),
      )

      pub called : (found : ℕ) (p : M) → found ≡ length n.0.seen → p ≡ (gave o.0, []) → Called takes after answer me.0 iteration request reply (found + 1) p.0
      called found p count given =
          let k = taken_is m t in
          let is : p.0 ≡ gave (counted (took me.0 log) e) = ap (λ (z : M). z.0) given ∙ ap (λ (z : M). gave z.0) counted_is in
          let long : found ≡ length log = count ∙ ap (λ (z : M). length z.0.seen) added_is in
          record {
            start = start;
            number = number;
            between = k.1.0;
            begun = begun;
            own = own;
            seen = ap (λ v. v.seen) is ∙ ap (λ l. l ++ e ∷ []) (sym k.1.1);
            legal = subst (λ v. IsLegal takes after answer start (entries v.seen)) (sym is) (subst (IsLegal takes after answer start) (sym (entries-push log e)) (legal_push takes after answer start (entries log) e.1 k.2 may_here replied));
            replied = replied ∙ ap (λ l. answer (fold_of after start (entries l)) request) (sym k.1.1);
            made = ap (λ v. v.made) is;
            front_is = (let l : length (log ++ e ∷ []) ≡ found + 1 = omega (arith, length-append log (e ∷ [])) in sym l ∙ ap (λ v. length v.seen) (sym is));
            same = (ap (λ v. v.start) is, ap (λ v. v.rest) is, ap (λ v. length v.made) is ∙ with_made-length e.1 me.0.made);
          }
