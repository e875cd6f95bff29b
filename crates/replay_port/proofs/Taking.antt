-- The next entry that is left of those of a port, and what was taken and is left once it is taken off.
use Rattle.std.proofs.Common.{◌≡◌, ◌≢◌, ℕ, zero, suc, ◌+◌, List, [], ◌∷◌, ◌++◌, take, drop, ap, sym, subst, ◌∙◌, arith, Some, None}
use Rattle.std.specs.Prelude.{slice_get}
use Rattle.std.specs.Option.{option_map}
use Rattle.std.proofs.lemmas.Option.{slice_get-map}
use Rattle.best_monitor.specs.declared.request.Reply.{Reply}
use Rattle.best_monitor.specs.Port.{HoldsAll, GoesOn, GoesAstray}
use Rattle.pool_monitor.specs.declared.request.DeskRequest.{DeskRequest}
use Rattle.pool_monitor.specs.Replies.{CanHave}
use Rattle.replay_port.specs.declared.lines.EntryLine.{EntryLine}
use Rattle.replay_port.specs.Lines.{Line, lines_of, pairs_of}
use Rattle.replay_port.specs.Odds.{asked_text, odds_of}

module _ {X : Type 0} where
  drop_next : (xs : List X) (n : ℕ) (x : X) → slice_get xs n ≡ Some x → drop n xs ≡ x ∷ drop (suc n) xs
  drop_next [] n x h = let none : None ≡ Some x = h in cc
  drop_next (y ∷ ys) zero x h = let some : Some y ≡ Some x = h in let same : y ≡ x = cc in ap (λ z. z ∷ ys) same
  drop_next (y ∷ ys) (suc n) x h = drop_next ys n x h

  take_next : (xs : List X) (n : ℕ) (x : X) → slice_get xs n ≡ Some x → take (suc n) xs ≡ take n xs ++ x ∷ []
  take_next [] n x h = let none : None ≡ Some x = h in cc
  take_next (y ∷ ys) zero x h = let some : Some y ≡ Some x = h in let same : y ≡ x = cc in ap (λ z. z ∷ []) same
  take_next (y ∷ ys) (suc n) x h = ap (λ l. y ∷ l) (take_next ys n x h)

module _ (entries : List EntryLine) (n : ℕ) (next : EntryLine) (here : slice_get entries n ≡ Some next) where
  abbrev line : Line
  line = (next.line, next.entry.now)

  abbrev pair : DeskRequest × Reply
  pair = (next.entry.now.request, next.entry.now.reply)

  next_line : slice_get (lines_of entries) n ≡ Some line
  next_line = slice_get-map (λ (l : EntryLine). (l.line, l.entry.now)) entries n ∙ ap (option_map (λ (l : EntryLine). (l.line, l.entry.now))) here

  next_pair : slice_get (pairs_of (lines_of entries)) n ≡ Some pair
  next_pair = slice_get-map (λ (l : Line). (l.1.request, l.1.reply)) (lines_of entries) n ∙ ap (option_map (λ (l : Line). (l.1.request, l.1.reply))) next_line

  left_is : drop n (lines_of entries) ≡ line ∷ drop (suc n) (lines_of entries)
  left_is = drop_next (lines_of entries) n line next_line

  pub odds_are : (loop iteration : ℕ) (q : DeskRequest) (asked found : List ℕ) → asked ≡ asked_text iteration q → found ≡ asked_text next.entry.now.iteration next.entry.now.request
      → odds_of loop iteration (drop n (lines_of entries)) q ≡ (next.line, asked, found)
  odds_are loop iteration q asked found is there = ap (λ left. odds_of loop iteration left q) left_is ∙ (λ i. (next.line, sym is i, sym there i))

  rest_is : drop n (pairs_of (lines_of entries)) ≡ pair ∷ drop (suc n) (pairs_of (lines_of entries))
  rest_is = drop_next (pairs_of (lines_of entries)) n pair next_pair

  pub asked_is : (q : DeskRequest) (r : Reply) → next.entry.now.request ≡ q → r ≡ next.entry.now.reply → take (n + 1) (pairs_of (lines_of entries)) ≡ take n (pairs_of (lines_of entries)) ++ (q, r) ∷ []
  asked_is q r same reply =
      let on : n + 1 ≡ suc n = omega arith in
      ap (λ m. take m (pairs_of (lines_of entries))) on ∙ (take_next (pairs_of (lines_of entries)) n pair next_pair ∙ (λ i. take n (pairs_of (lines_of entries)) ++ (same i, sym reply i) ∷ []))

  pub goes_on : (q : DeskRequest) (r : Reply) → next.entry.now.request ≡ q → r ≡ next.entry.now.reply → GoesOn (Some (drop n (pairs_of (lines_of entries)))) q r (Some (drop (n + 1) (pairs_of (lines_of entries))))
  goes_on q r same reply =
      let on : n + 1 ≡ suc n = omega arith in
      subst (λ rest. GoesOn (Some rest) q r (Some (drop (n + 1) (pairs_of (lines_of entries))))) (sym rest_is) (same, sym reply, ap (λ m. Some (drop m (pairs_of (lines_of entries)))) on)

  pub goes_astray : (q : DeskRequest) → next.entry.now.request ≢ q → GoesAstray {R = Reply} (Some (drop n (pairs_of (lines_of entries)))) q
  goes_astray q other = subst (λ rest. GoesAstray (Some rest) q) (sym rest_is) other

  pub next_had : (q : DeskRequest) (r : Reply) → HoldsAll CanHave (Some (pairs_of (lines_of entries))) → next.entry.now.request ≡ q → r ≡ next.entry.now.reply → CanHave q r
  next_had q r had same reply = subst (λ (p : DeskRequest × Reply). CanHave p.0 p.1) (λ i. (same i, sym reply i)) (had n pair next_pair)
