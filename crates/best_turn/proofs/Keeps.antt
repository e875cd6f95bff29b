-- The steps on the words keep the rule.
use Rattle.std.proofs.Common.{◌≡◌, ◌≢◌, ⊎_elim, ℕ, zero, suc, ◌+◌, ◌-◌, ◌%◌, ◌<◌, ◌≤◌, Bool, true, false, true≢false, cond, eqb, ne_eqb, List, [], ◌∷◌, ◌++◌, length, set, get_or, refl, ap, ap₂, subst, sym, ◌∙◌, arith, length-append, Option, Some, None, IsSome, lt_of_not-le}
use Rattle.std.proofs.lemmas.List.{append-nil}
use mathlib.Core.Option.{none, some, some-ne-none, some-injective}
use mathlib.Core.Option as maybe
use native.Mathlib.Decide.{dec_le}
use lib.ListN.{get_elem?}
use prog.Atomic.{either}
use Rattle.atomic_table.specs.Table.{State, Me, Act, keeps, takes, gives, step, Valid, carried_after, homes_after, Allows, opening}
use Rattle.atomic_table.proofs.Lists.{at_set, at_snoc, set_again}
use Rattle.best_turn.specs.declared.replays.Entry.{Entry}
use Rattle.best_turn.specs.declared.view.View.{View}
use Rattle.best_turn.specs.History.{total, entries, IsMade, with_made, fold_of, IsLegal}
use Rattle.best_turn.specs.Rule.{all_numbers, one_if, word_of, home_of, holds_number, count_numbers, took, counted, gave, newcomer, Fits, Kept, take_tells, count_tells, give_tells, warn_tells}
use Rattle.best_turn.specs.Calls.{HasNumber, HoldsBook, IsNext, IsWhole}
use Rattle.best_turn.proofs.Sums.{total_same, total_at, total_two, at_put}
use Rattle.best_turn.proofs.Histories.{with_made-numbers, with_made-length, IsMade-else, IsMade-here, entries-push, prefix_push, legal_push, one_if-same}

pub fits_put : {V : Type 0} (P : ℕ → V → Type 0) (views : List V) (id : ℕ) (w : V) → ((j : ℕ) (u : V) → j ≢ id → get_elem? views j ≡ some u → P j u) → P id w → (j : ℕ) (u : V) → get_elem? (set views id w) j ≡ some u → P j u
fits_put {V} P views id w others mine j u e =
    ⊎_elim
    (λ (x : (j ≡ id) × (w ≡ u)). subst (λ (y : ℕ × V). P y.0 y.1) (λ i. (sym x.0 i, x.1 i)) mine)
    (λ (x : (j ≢ id) × (get_elem? views j ≡ some u)). others j u x.0 x.1)
    (at_set views id j w u e)

abbrev of_some : {S : Type 0} → S → Option S → S
of_some d (Some x) = x
of_some d None = d

pub off : {X : Type 0} → false ≡ true → X
off e = absurd (true≢false (sym e))

module _ {S Q R : Type 0} (may : S → Q → Type 0) (after : S → Q → S) (answer : S → Q → R) (start : S) where
  abbrev D : Type 0
  D = S × List (ℕ × Entry Q R)

  abbrev V : Type 0
  V = View S Q R

  abbrev M : Type 0
  M = Me D V

  abbrev St : Type 0
  St = State D V

  abbrev K : St → Type 0
  K = Kept may after answer start

  -- what a step owes, of the words and the homes that it finds
  abbrev Goes : List V → List ℕ → List (maybe.Option D) → ℕ → ℕ → ℕ → List (ℕ × D) → (M → Type 0) → Type 0
  Goes views ws hs i x id c then = (w : V) × (a : Act D) × Valid hs c a × K record { words = set ws i x; homes = homes_after hs c a; views = set views id w } × then (w, carried_after c a)

  -- a step that changes nothing
  stays : (t : St) (r : K t) (id : ℕ) (me : M) (ws : List ℕ) (hs : List (maybe.Option D)) → get_elem? t.views id ≡ some me.0 → t.words ≡ ws → t.homes ≡ hs → K record { words = ws; homes = hs; views = set t.views id me.0 }
  stays t r id me ws hs at words homes = subst K (λ k. record { words = words k; homes = homes k; views = sym (set_again t.views id me.0 at) k }) r

  -- the turn is free: the seat has it, with the book
  from_free : (slots : ℕ) (b : Bool) (t : St) (r : K t) (id : ℕ) (me : M) (s : S) → r.turn ≡ false → me.0.start ≡ Some s → 0 < length me.0.made → get_elem? t.views id ≡ some me.0
      → Goes t.views (0 ∷ length r.log ∷ []) (some (fold_of after start (entries r.log), r.log) ∷ []) 0 (word_of true b) id me.1 (take_tells may after answer (step slots 0 0 (word_of true b) none) me 0)
  from_free slots b t r id me s free begun owns at =
      let f = r.each id me.0 at in let d : D = (fold_of after start (entries r.log), r.log) in let w : V = took me.0 r.log in (
        w,
        takes 0 d,
        refl,
        record {
          log = r.log;
          turn = true;
          sleepers = b;
          holder = id;
          keeper = r.keeper;
          rest = r.rest;
          words = refl;
          home = refl;
          legal = r.legal;
          held = λ _. (w, at_put t.views id me.0 w at, refl);
          each = fits_put (Fits start r.log true id r.keeper r.rest) t.views id w
              (λ j u _ e. let g = r.each j u e in record { begun = g.begun; seen = g.seen; made = g.made; turned = λ h. off (sym free ∙ (g.turned h).0); free = g.free })
              record { begun = f.begun; seen = ([], append-nil r.log); made = f.made; turned = λ _. (refl, refl, refl, owns); free = f.free };
          once = λ n. let e = total_same (holds_number n) t.views id me.0 w at refl in ((λ lt. e ∙ (r.once n).0 lt), (λ le. e ∙ (r.once n).1 le));
          given = ap (λ (k : ℕ). k + r.rest) (total_same count_numbers t.views id me.0 w at refl) ∙ r.given;
          known = r.known;
        },
        ((λ _. (start, r.log, begun ∙ ap (λ (x : S). Some x) (f.begun s begun), f.seen, r.legal, refl)), (λ ne. absurd (ne refl))),
      )

  -- the words and the home, where these flags are known
  abbrev Words : (t : St) → K t → Bool → Bool → List ℕ
  Words t r b w = word_of b w ∷ length r.log ∷ []

  abbrev Homes : (t : St) → K t → Bool → List (maybe.Option D)
  Homes t r b = home_of b (fold_of after start (entries r.log), r.log) ∷ []

  words_are : (t : St) (r : K t) (b w : Bool) → r.turn ≡ b → r.sleepers ≡ w → t.words ≡ Words t r b w
  words_are t r b w is waits = r.words ∙ ap₂ (Words t r) is waits

  homes_are : (t : St) (r : K t) (b : Bool) → r.turn ≡ b → t.homes ≡ Homes t r b
  homes_are t r b is = r.home ∙ ap (Homes t r) is

  pub takes_turn : (slots id : ℕ) (me : M) (s : S) (late : Bool) → me.0.start ≡ Some s → 0 < length me.0.made → Allows K slots id me 0 (λ n. either (eqb n 0) (word_of true late) n) (take_tells may after answer (step slots 0 0 (word_of true late) none) me)
  takes_turn slots id me s late begun owns t r wide at _ =
      let G : List ℕ → List (maybe.Option D) → Type 0 = λ ws hs. Goes t.views ws hs 0 (either (eqb (get_or ws 0 0) 0) (word_of true late) (get_or ws 0 0)) id me.1 (take_tells may after answer (step slots 0 0 (word_of true late) none) me (get_or ws 0 0)) in
      subst (λ (z : List ℕ × List (maybe.Option D)). G z.0 z.1) (λ k. (sym r.words k, sym r.home k)) (cases r.turn r.sleepers refl refl)
    where
      cases : (b w : Bool) → r.turn ≡ b → r.sleepers ≡ w → Goes t.views (Words t r b w) (Homes t r b) 0 (either (eqb (word_of b w) 0) (word_of true late) (word_of b w)) id me.1 (take_tells may after answer (step slots 0 0 (word_of true late) none) me (word_of b w))
      cases true true is waits = (me.0, keeps, tt, stays t r id me (Words t r true true) (Homes t r true) at (words_are t r true true is waits) (homes_are t r true is), ((λ e. absurd (omega arith)), (λ _. refl)))
      cases true false is waits = (me.0, keeps, tt, stays t r id me (Words t r true false) (Homes t r true) at (words_are t r true false is waits) (homes_are t r true is), ((λ e. absurd (omega arith)), (λ _. refl)))
      cases false w is waits = from_free slots late t r id me s is begun owns at

  -- a seat that waits says so, where the turn is taken
  pub warns : (slots id : ℕ) (me : M) → Allows K slots id me 0 (λ n. either (eqb n 1) 2 n) (warn_tells (step slots 0 1 2 none) me)
  warns slots id me t r wide at _ =
      let G : List ℕ → List (maybe.Option D) → Type 0 = λ ws hs. Goes t.views ws hs 0 (either (eqb (get_or ws 0 0) 1) 2 (get_or ws 0 0)) id me.1 (warn_tells (step slots 0 1 2 none) me (get_or ws 0 0)) in
      subst (λ (z : List ℕ × List (maybe.Option D)). G z.0 z.1) (λ k. (sym r.words k, sym r.home k)) (cases r.turn r.sleepers refl refl)
    where
      cases : (b w : Bool) → r.turn ≡ b → r.sleepers ≡ w → Goes t.views (Words t r b w) (Homes t r b) 0 (either (eqb (word_of b w) 1) 2 (word_of b w)) id me.1 (warn_tells (step slots 0 1 2 none) me (word_of b w))
      cases true true is waits = (me.0, keeps, tt, stays t r id me (Words t r true true) (Homes t r true) at (words_are t r true true is waits) (homes_are t r true is), refl)
      cases true false is waits = (
        me.0,
        keeps,
        tt,
        subst K (λ k. record { words = Words t r true true; homes = homes_are t r true is k; views = sym (set_again t.views id me.0 at) k })
            record {
              log = r.log;
              turn = r.turn;
              sleepers = true;
              holder = r.holder;
              keeper = r.keeper;
              rest = r.rest;
              words = ap (λ b. Words t r b true) (sym is);
              home = r.home;
              legal = r.legal;
              held = r.held;
              each = r.each;
              once = r.once;
              given = r.given;
              known = r.known;
            },
        refl,
      )
      cases false w is waits = (me.0, keeps, tt, stays t r id me (Words t r false w) (Homes t r false) at (words_are t r false w is waits) (homes_are t r false is), refl)

  -- no number is held twice
  once_most : (t : St) (r : K t) (n : ℕ) → total (holds_number n) t.views ≤ 1
  once_most t r n = by_cases (dec_le (all_numbers - r.rest) n)
    where
      by_cases : Dec (all_numbers - r.rest ≤ n) → total (holds_number n) t.views ≤ 1
      by_cases (yes h) = let e = (r.once n).1 h in omega arith
      by_cases (no h) = let e = (r.once n).0 (lt_of_not-le h) in omega arith

  -- a number that some view holds was given
  was_given : (t : St) (r : K t) (n : ℕ) → 1 ≤ total (holds_number n) t.views → n < all_numbers - r.rest
  was_given t r n some_view = by_cases (dec_le (all_numbers - r.rest) n)
    where
      by_cases : Dec (all_numbers - r.rest ≤ n) → n < all_numbers - r.rest
      by_cases (yes h) = let e = (r.once n).1 h in absurd (omega arith)
      by_cases (no h) = lt_of_not-le h

  push_inj : {X : Type 0} (l : List X) (x y : X) → l ++ x ∷ [] ≡ l ++ y ∷ [] → x ≡ y
  push_inj [] x y e = ap (λ l. first l x) e
    where
      first : {X : Type 0} → List X → X → X
      first [] d = d
      first (z ∷ zs) d = z
  push_inj (z ∷ zs) x y e = push_inj zs x y (ap rest_of e)
    where
      rest_of : {X : Type 0} → List X → List X
      rest_of [] = []
      rest_of (z ∷ zs) = zs

  pub counts_entry : (slots id : ℕ) (me : M) (s : S) (d : D) (e : ℕ × Entry Q R) (es : List (Entry Q R)) (ms : List (ℕ × List (Entry Q R)))
      → me.0.start ≡ Some s → me.1 ≡ (0, d) ∷ [] → d.1 ≡ me.0.seen ++ e ∷ [] → me.0.has_turn ≡ true → me.0.made ≡ (e.0, es) ∷ ms → length d.1 < 18446744073709551616
      → may (fold_of after s (entries me.0.seen)) e.1.request → e.1.reply ≡ answer (fold_of after s (entries me.0.seen)) e.1.request
      → Allows K slots id me 1 (λ n. (n + 1) % 18446744073709551616) (count_tells (step slots 1 1 0 none) me)
  counts_entry slots id me s d e es ms begun held more has own short taken replied t r wide at _ =
      let G : List ℕ → List (maybe.Option D) → Type 0 = λ ws hs. Goes t.views ws hs 1 ((get_or ws 1 0 + 1) % 18446744073709551616) id me.1 (count_tells (step slots 1 1 0 none) me (get_or ws 1 0)) in
      let f = r.each id me.0 at in
      let mine = f.turned has in
      let same : me.0.seen ≡ r.log = mine.2 in
      subst (λ (z : List ℕ × List (maybe.Option D)). G z.0 z.1)
      (λ k. (
        sym (words_are t r true r.sleepers mine.0 refl) k,
        sym (homes_are t r true mine.0) k,
      ))
      (let w : V = counted me.0 e in
      let log : List (ℕ × Entry Q R) = r.log ++ e ∷ [] in
      let long : length d.1 ≡ length r.log + 1 = ap (λ (l : List (ℕ × Entry Q R)). length l) (more ∙ ap (λ l. l ++ e ∷ []) same) ∙ (omega (arith, length-append r.log (e ∷ []))) in
      let begin : s ≡ start = f.begun s begun in
      let once_here : (n : ℕ) → holds_number n w ≡ holds_number n me.0 = λ n. with_made-numbers n e.1 me.0.made in
      let held_once : 1 ≤ holds_number e.0 me.0 = subst (λ l. 1 ≤ total (λ (m : ℕ × List (Entry Q R)). one_if e.0 m.0) l) (sym own) (let o = one_if-same e.0 in omega arith) in
      let most = once_most t r e.0 in (
        w,
        keeps,
        tt,
        record {
          log = log;
          turn = true;
          sleepers = r.sleepers;
          holder = id;
          keeper = r.keeper;
          rest = r.rest;
          words = (let z : (length r.log + 1) % 18446744073709551616 ≡ length log = omega (arith, length-append r.log (e ∷ [])) in ap (λ (n : ℕ). word_of true r.sleepers ∷ n ∷ []) z);
          home = refl;
          legal = subst (IsLegal may after answer start) (sym (entries-push r.log e))
              (legal_push may after answer start (entries r.log) e.1 r.legal
              (subst (λ (z : S × List (ℕ × Entry Q R)). may (fold_of after z.0 (entries z.1)) e.1.request) (λ k. (begin k, same k)) taken)
              (subst (λ (z : S × List (ℕ × Entry Q R)). e.1.reply ≡ answer (fold_of after z.0 (entries z.1)) e.1.request) (λ k. (begin k, same k)) replied));
          held = λ _. (w, at_put t.views id me.0 w at, has);
          each = fits_put (Fits start log true id r.keeper r.rest) t.views id w
              (λ j u ne at'. let g = r.each j u at' in let two = total_two (holds_number e.0) t.views id j me.0 u (λ q. ne (sym q)) at at' in record {
                begun = g.begun;
                seen = prefix_push u.seen r.log (e ∷ []) g.seen;
                made = IsMade-else r.log e.0 e.1 u.made (omega arith) g.made;
                turned = λ h. absurd (ne ((g.turned h).1 ∙ sym mine.1));
                free = g.free;
              })
              record {
                begun = f.begun;
                seen = ([], append-nil (me.0.seen ++ e ∷ []) ∙ ap (λ l. l ++ e ∷ []) same);
                made = subst (λ l. IsMade log (with_made e.1 l)) (sym own)
                    (IsMade-here r.log e.0 e.1 es ms (subst (λ l. total (λ (m : ℕ × List (Entry Q R)). one_if e.0 m.0) l ≤ 1) own (let a = total_at (holds_number e.0) t.views id me.0 at in omega arith)) (subst (IsMade r.log) own f.made));
                turned = λ _. (refl, refl, ap (λ l. l ++ e ∷ []) same, (let l = with_made-length e.1 me.0.made in let o = mine.3 in omega arith));
                free = f.free;
              };
          once = λ n. let q = total_same (holds_number n) t.views id me.0 w at (once_here n) in ((λ lt. q ∙ (r.once n).0 lt), (λ le. q ∙ (r.once n).1 le));
          given = ap (λ (k : ℕ). k + r.rest) (total_same count_numbers t.views id me.0 w at (with_made-length e.1 me.0.made)) ∙ r.given;
          known = λ n x k there. ⊎_elim
              (λ (was : get_elem? r.log k ≡ some (n, x)). r.known n x k was)
              (λ (new : e ≡ (n, x)). subst (λ (z : ℕ). z < all_numbers - r.rest) (ap (λ (z : ℕ × Entry Q R). z.0) new) (was_given t r e.0 (let a = total_at (holds_number e.0) t.views id me.0 at in omega arith)))
              (at_snoc r.log e (n, x) k there);
        },
        (
          ap (λ (l : List (ℕ × Entry Q R)). length l) (sym same),
          refl,
          λ d' e' held' more'. ap (counted me.0) (push_inj me.0.seen e e' (sym more ∙ (ap second_of (sym held ∙ held') ∙ more'))),
        ),
      ))
    where
      second_of : List (ℕ × (S × List (ℕ × Entry Q R))) → List (ℕ × Entry Q R)
      second_of [] = []
      second_of (x ∷ xs) = x.1.1

  pub gives_turn : (slots id : ℕ) (me : M) (s : S) (d : D) → me.0.start ≡ Some s → me.1 ≡ (0, d) ∷ [] → me.0.has_turn ≡ true → d.0 ≡ fold_of after s (entries me.0.seen) → d.1 ≡ me.0.seen
      → Allows K slots id me 0 (λ _. 0) (give_tells (step slots 0 0 0 none) me)
  gives_turn slots id me s d begun held has state log t r wide at _ =
      let f = r.each id me.0 at in
      let mine = f.turned has in
      let same : me.0.seen ≡ r.log = mine.2 in
      let begin : s ≡ start = f.begun s begun in
      let G : List ℕ × List (maybe.Option D) × List (ℕ × D) → Type 0 = λ z. Goes t.views z.0 z.1 0 0 id z.2 (give_tells (step slots 0 0 0 none) me (get_or z.0 0 0)) in
      let now : d ≡ (fold_of after start (entries r.log), r.log) = λ k. ((state ∙ ap₂ (λ (a : S) (l : List (ℕ × Entry Q R)). fold_of after a (entries l)) begin same) k, (log ∙ same) k) in
      let w : V = gave me.0 in
      subst G
      (λ k. (
        sym (words_are t r true r.sleepers mine.0 refl) k,
        sym (homes_are t r true mine.0) k,
        sym held k,
      )) (
        w,
        gives,
        tt,
        record {
          log = r.log;
          turn = false;
          sleepers = false;
          holder = id;
          keeper = r.keeper;
          rest = r.rest;
          words = refl;
          home = ap (λ (x : D). some x ∷ []) now;
          legal = r.legal;
          held = λ h. off h;
          each = fits_put (Fits start r.log false id r.keeper r.rest) t.views id w
              (λ j u ne at'. let g = r.each j u at' in record { begun = g.begun; seen = g.seen; made = g.made; turned = λ h. absurd (ne ((g.turned h).1 ∙ sym mine.1)); free = g.free })
              record { begun = f.begun; seen = f.seen; made = f.made; turned = λ h. off h; free = f.free };
          once = λ n. let q = total_same (holds_number n) t.views id me.0 w at refl in ((λ lt. q ∙ (r.once n).0 lt), (λ le. q ∙ (r.once n).1 le));
          given = ap (λ (k : ℕ). k + r.rest) (total_same count_numbers t.views id me.0 w at refl) ∙ r.given;
          known = r.known;
        },
        refl,
      )

-- at the words of the contracts
module _ {S Q R : Type 0} (may : S → Q → Type 0) (after : S → Q → S) (answer : S → Q → R) (start : S) (slots id : ℕ) (me : Me (S × List (ℕ × Entry Q R)) (View S Q R)) where
  pub takes_as : (late : Bool) → IsSome me.0.start → 0 < length me.0.made → Allows (Kept may after answer start) slots id me 0 (λ n. either (eqb n 0) (word_of true late) n) (take_tells may after answer (step slots 0 0 (word_of true late) none) me)
  takes_as late begun owns = cases me.0.start refl begun
    where
      cases : (o : Option S) → me.0.start ≡ o → IsSome o → Allows (Kept may after answer start) slots id me 0 (λ n. either (eqb n 0) (word_of true late) n) (take_tells may after answer (step slots 0 0 (word_of true late) none) me)
      cases (Some s) e h = takes_turn may after answer start slots id me s late e owns
      cases None e h = off h

  split_number : (n : ℕ) (made : List (ℕ × List (Entry Q R))) → HasNumber n made → (es : List (Entry Q R)) × (ms : List (ℕ × List (Entry Q R))) × (made ≡ (n, es) ∷ ms)
  split_number n [] h = let l = h.0 in absurd (omega arith)
  split_number n (m ∷ ms) h = (m.1, ms, λ k. (h.1 k, m.1) ∷ ms)

  pub counts_as : HoldsBook me (λ d. IsNext may after answer me.0 d) → Allows (Kept may after answer start) slots id me 1 (λ n. (n + 1) % 18446744073709551616) (count_tells (step slots 1 1 0 none) me)
  counts_as h =
      let next = h.2 in let s = next.2 in let own = split_number s.1.0 me.0.made s.4 in
      counts_entry may after answer start slots id me s.0 h.0 s.1 own.0 own.1 s.2 h.1 s.3 next.0 own.2 next.1 s.5 s.6

  pub gives_as : HoldsBook me (λ d. IsWhole after me.0 d) → Allows (Kept may after answer start) slots id me 0 (λ _. 0) (give_tells (step slots 0 0 0 none) me)
  gives_as h = let w = h.2 in gives_turn may after answer start slots id me w.1.0 h.0 w.1.1 h.1 w.0 w.1.2 w.1.3

one_there : (n : ℕ) → (n < 1 → one_if n 0 + 0 + 0 ≡ 1) × (1 ≤ n → one_if n 0 + 0 + 0 ≡ 0)
one_there zero = ((λ _. refl), (λ h. absurd (omega arith)))
one_there (suc n) = ((λ h. absurd (omega arith)), (λ _. ap (λ b. cond b 1 0 + 0 + 0) (ne_eqb 0 (suc n) (λ e. omega arith))))

-- the table at the start
module _ {S Q R : Type 0} (may : S → Q → Type 0) (after : S → Q → S) (answer : S → Q → R) (start : S) where
  pub begins : (slots : List (S × List (ℕ × Entry Q R))) → slots ≡ (start, []) ∷ [] → Kept may after answer start (opening (0 ∷ 0 ∷ []) slots (newcomer start [] 0 4294967296))
  begins slots is = subst (λ l. Kept may after answer start (opening (0 ∷ 0 ∷ []) l (newcomer start [] 0 4294967296))) (sym is) record {
    log = [];
    turn = false;
    sleepers = false;
    holder = 0;
    keeper = 0;
    rest = 4294967296;
    words = refl;
    home = refl;
    legal = tt;
    held = λ h. off h;
    each = each;
    once = one_there;
    given = refl;
    known = λ n e k there. absurd (some-ne-none (n, e) (sym there));
  }
    where
      each : (i : ℕ) (v : View S Q R) → get_elem? (newcomer start [] 0 4294967296 ∷ []) i ≡ some v → Fits start [] false 0 0 4294967296 i v
      each zero v e = subst (Fits start [] false 0 0 4294967296 0) (some-injective _ _ e) record { begun = λ s b. ap (of_some start) (sym b); seen = ([], refl); made = (refl, tt); turned = λ h. off h; free = λ _. (refl, refl) }
      each (suc i) v e = absurd (some-ne-none v (sym e))
