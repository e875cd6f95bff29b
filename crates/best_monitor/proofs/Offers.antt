-- After a history a monitor's best is the first of the least ones: what it had, and what was reported.
use Rattle.std.proofs.Common.{◌≡◌, ◌≢◌, ℕ, zero, suc, ◌<◌, Bool, true, false, cond, eq-eqb, ne_eqb, List, [], ◌∷◌, ◌++◌, length, set, refl, ap, subst, sym, ◌∙◌, arith, Option, Some, None, inl, inr}
use Rattle.std.specs.Prelude.{◌<ℤ◌, slice_get}
use Rattle.std.specs.Option.{option_and_then, option_to_list}
use Rattle.std.proofs.lemmas.Int.{by_lt_z, ints}
use native.Mathlib.Decide.{ℕ_discrete}
use Rattle.best_turn.specs.declared.replays.Entry.{Entry}
use Rattle.best_monitor.specs.declared.monitor.Best.{Best}
use Rattle.best_monitor.specs.declared.monitor.Monitor.{Monitor}
use Rattle.best_monitor.specs.declared.request.Request.{Request}
use Rattle.best_monitor.specs.declared.request.Request.TheVariants.{Report, Value, Second, Has, Copy, Stop, Stopped}
use Rattle.best_monitor.specs.declared.request.Reply.{Reply}
use Rattle.best_monitor.specs.declared.request.Reply.TheVariants as reply
use Rattle.best_monitor.specs.Board.{monitor_of, improves, monitor_step, board_after}
use Rattle.best_monitor.specs.History.{fold}
use Rattle.best_monitor.specs.Least.{best_of, report_of, reports_of, IsLess, IsAtMost, AllGreater, IsFirstLeast, IsLeastOf, offers_of}
use Rattle.best_monitor.specs.BoardLaws.{after_from, length-after}

abbrev head_or : {X : Type 0} → X → List X → X
head_or d [] = d
head_or d (x ∷ xs) = x

abbrev tail_of : {X : Type 0} → List X → List X
tail_of [] = []
tail_of (x ∷ xs) = xs

get_set_same : {X : Type 0} (xs : List X) (i : ℕ) (x y : X) → slice_get xs i ≡ Some x → slice_get (set xs i y) i ≡ Some y
get_set_same [] i x y e = let c : Some x ≡ None = sym e in cc
get_set_same (z ∷ zs) zero x y e = refl
get_set_same (z ∷ zs) (suc i) x y e = get_set_same zs i x y e

get_set_other : {X : Type 0} (xs : List X) (i j : ℕ) (y : X) → i ≢ j → slice_get (set xs i y) j ≡ slice_get xs j
get_set_other [] i j y ne = refl
get_set_other (z ∷ zs) zero zero y ne = absurd (ne refl)
get_set_other (z ∷ zs) zero (suc j) y ne = refl
get_set_other (z ∷ zs) (suc i) zero y ne = refl
get_set_other (z ∷ zs) (suc i) (suc j) y ne = get_set_other zs i j y (λ e. ne (ap suc e))

-- the better of a best and a report, and of a best and several
abbrev better : Option Best → Best → Option Best
better o r = cond (improves r.value r.second o) (Some r) o

abbrev best_with : Option Best → List Best → Option Best
best_with o [] = o
best_with o (r ∷ rs) = best_with (better o r) rs

less_at_most : (a b : Best) → IsLess a b → IsAtMost a b
less_at_most a b (inl less) = inl less
less_at_most a b (inr tie) = let l = tie.1 in inr (tie.0, omega (arith, ints))

-- what is at most one that is less is less
at_most_less : (a b c : Best) → IsAtMost a b → IsLess b c → IsLess a c
at_most_less a b c (inl x) (inl y) = inl (omega (arith, ints))
at_most_less a b c (inl x) (inr y) = inl (subst (λ v. a.value <ℤ v) y.0 x)
at_most_less a b c (inr x) (inl y) = inl (subst (λ v. v <ℤ c.value) (sym x.0) y)
at_most_less a b c (inr x) (inr y) = let m = x.1 in let l = y.1 in inr (x.0 ∙ y.0, omega (arith, ints))

-- what is less than one that is at most another is less
less_than_most : (a b c : Best) → IsLess a b → IsAtMost b c → IsLess a c
less_than_most a b c (inl x) (inl y) = inl (omega (arith, ints))
less_than_most a b c (inl x) (inr y) = inl (subst (λ v. a.value <ℤ v) y.0 x)
less_than_most a b c (inr x) (inl y) = inl (subst (λ v. v <ℤ c.value) (sym x.0) y)
less_than_most a b c (inr x) (inr y) = let l = x.1 in let m = y.1 in inr (x.0 ∙ y.0, omega (arith, ints))

-- a report replaces a best exactly where its pair is less
by_pairs : {X : Type 0} (r y : Best) → (improves r.value r.second (Some y) ≡ true → IsLess r y → X) → (improves r.value r.second (Some y) ≡ false → IsAtMost y r → X) → X
by_pairs r y less most = by_lt_z r.value y.value
    (λ l. less (grind (arith, ints)) (inl l))
    (λ m. by_lt_z y.value r.value
    (λ g. most (grind (arith, ints)) (inl g))
    (λ n. let same : r.value ≡ y.value = omega (arith, ints) in by_lt_z r.second y.second
    (λ l. less (grind (arith, ints)) (inr (same, l)))
    (λ k. most (grind (arith, ints)) (inr (sym same, k)))))

-- the least is at most the first of a list
head_not_less : (r : Best) (rest : List Best) (z : Best) → IsFirstLeast (r ∷ rest) z → IsAtMost z r
head_not_less r rest z f = cases f.before f.stands f.first
  where
    cases : (before : List Best) → r ∷ rest ≡ before ++ z ∷ f.after → AllGreater z before → IsAtMost z r
    cases [] e a = subst (λ (b : Best). IsAtMost z b) (sym (ap (head_or r) e)) (inr (refl, omega (arith, ints)))
    cases (p ∷ ps) e a = subst (λ (b : Best). IsAtMost z b) (sym (ap (head_or r) e)) (less_at_most z p a.0)

-- a best that is replaced stands before the least
replaced : (y r : Best) (rest : List Best) (o : Option Best) → IsLess r y → IsLeastOf (r ∷ rest) o → IsLeastOf (y ∷ r ∷ rest) o
replaced y r rest None less h = let c : r ∷ rest ≡ [] = h in cc
replaced y r rest (Some z) less f = record {
  before = y ∷ f.before;
  after = f.after;
  stands = ap (λ l. y ∷ l) f.stands;
  first = (at_most_less z r y (head_not_less r rest z f) less, f.first);
  least = f.least;
}

-- a report that isn't less than the best changes nothing
kept : (y r : Best) (rest : List Best) (o : Option Best) → IsAtMost y r → IsLeastOf (y ∷ rest) o → IsLeastOf (y ∷ r ∷ rest) o
kept y r rest None most h = let c : y ∷ rest ≡ [] = h in cc
kept y r rest (Some z) most f = cases f.before f.stands f.first
  where
    cases : (before : List Best) → y ∷ rest ≡ before ++ z ∷ f.after → AllGreater z before → IsFirstLeast (y ∷ r ∷ rest) z
    cases [] e a = let same : y ≡ z = ap (head_or y) e in record {
      before = [];
      after = r ∷ f.after;
      stands = (λ k. same k ∷ r ∷ (ap tail_of e) k);
      first = tt;
      least = (subst (λ (b : Best). IsAtMost b r) same most, f.least);
    }
    cases (p ∷ ps) e a = let same : p ≡ y = sym (ap (head_or y) e) in let least : IsLess z y = subst (λ (b : Best). IsLess z b) same a.0 in record {
      before = y ∷ r ∷ ps;
      after = f.after;
      stands = ap (λ l. y ∷ r ∷ l) (ap tail_of e);
      first = (least, (less_than_most z y r least most, a.1));
      least = f.least;
    }

one_more : (o : Option Best) (r : Best) (rest : List Best) (x : Option Best) → IsLeastOf (option_to_list (better o r) ++ rest) x → IsLeastOf (option_to_list o ++ r ∷ rest) x
one_more None r rest x h = h
one_more (Some y) r rest x h = by_pairs {X = IsLeastOf (y ∷ r ∷ rest) x} r y
    (λ passes less. replaced y r rest x less (subst (λ (b : Bool). IsLeastOf (option_to_list (cond b (Some r) (Some y)) ++ rest) x) passes h))
    (λ fails most. kept y r rest x most (subst (λ (b : Bool). IsLeastOf (option_to_list (cond b (Some r) (Some y)) ++ rest) x) fails h))

more : (o : Option Best) (rs rest : List Best) (x : Option Best) → IsLeastOf (option_to_list (best_with o rs) ++ rest) x → IsLeastOf (option_to_list o ++ (rs ++ rest)) x
more o [] rest x h = h
more o (r ∷ rs) rest x h = one_more o r (rs ++ rest) x (more (better o r) rs rest x h)

-- the best of the monitor that a request names
best_stepped : (monitor : Monitor) (q : Request) → (monitor_step monitor q).0.best ≡ best_with monitor.best (report_of (monitor_of q) q)
best_stepped monitor (Report m value second list) = subst (λ (same : Bool). (monitor_step monitor (Report m value second list)).0.best ≡ best_with monitor.best (cond same (record { value = value; second = second; list = list } ∷ []) [])) (sym (eq-eqb m m refl)) (cases (improves value second monitor.best))
  where
    cases : (b : Bool) → (cond {A = Monitor × Reply} b (record { best = Some (record { value = value; second = second; list = list }); stopped = monitor.stopped }, reply.Truth true) (monitor, reply.Truth false)).0.best ≡ cond b (Some (record { value = value; second = second; list = list })) monitor.best
    cases true = refl
    cases false = refl
best_stepped monitor (Value m) = refl
best_stepped monitor (Second m) = refl
best_stepped monitor (Has m) = refl
best_stepped monitor (Copy m room) = refl
best_stepped monitor (Stop m) = refl
best_stepped monitor (Stopped m) = refl

-- a request to another monitor reports nothing
none_reported : (m : ℕ) (q : Request) → monitor_of q ≢ m → report_of m q ≡ []
none_reported m (Report n value second list) ne = ap (λ b. cond b (record { value = value; second = second; list = list } ∷ []) []) (ne_eqb n m ne)
none_reported m (Value n) ne = refl
none_reported m (Second n) ne = refl
none_reported m (Has n) ne = refl
none_reported m (Copy n room) ne = refl
none_reported m (Stop n) ne = refl
none_reported m (Stopped n) ne = refl

get_within : {X : Type 0} (xs : List X) (i : ℕ) → i < length xs → slice_get xs i ≡ None → ⊥
get_within [] i h e = absurd (omega arith)
get_within (x ∷ xs) zero h e = let c : Some x ≡ None = e in cc
get_within (x ∷ xs) (suc i) h e = get_within xs i (omega arith) e

best_after : (board : List Monitor) (q : Request) (m : ℕ) → m < length board → best_of (board_after board q) m ≡ best_with (best_of board m) (report_of m q)
best_after board q m within = cases (slice_get board (monitor_of q)) refl (ℕ_discrete (monitor_of q) m)
  where
    cases : (o : Option Monitor) → slice_get board (monitor_of q) ≡ o → Dec (monitor_of q ≡ m) → best_of (after_from board q o) m ≡ best_with (best_of board m) (report_of m q)
    cases None e (yes is) = absurd (get_within board (monitor_of q) (omega arith) e)
    cases None e (no ne) = sym (ap (best_with (best_of board m)) (none_reported m q ne))
    cases (Some monitor) e (yes is) = subst (λ (k : ℕ). best_of (set board (monitor_of q) (monitor_step monitor q).0) k ≡ best_with (best_of board k) (report_of k q)) is
        (ap (option_and_then (λ (x : Monitor). x.best)) (get_set_same board (monitor_of q) monitor (monitor_step monitor q).0 e)
        ∙ (best_stepped monitor q ∙ ap (λ (o : Option Monitor). best_with (option_and_then (λ (x : Monitor). x.best) o) (report_of (monitor_of q) q)) (sym e)))
    cases (Some monitor) e (no ne) = ap (option_and_then (λ (x : Monitor). x.best)) (get_set_other board (monitor_of q) m (monitor_step monitor q).0 ne) ∙ sym (ap (best_with (best_of board m)) (none_reported m q ne))

pub least_offer : (board : List Monitor) (es : List (Entry Request Reply)) (m : ℕ) → m < length board → IsLeastOf (offers_of board es m) (best_of (fold board es) m)
least_offer board [] m within = alone (best_of board m)
  where
    alone : (o : Option Best) → IsLeastOf (option_to_list o ++ []) o
    alone None = refl
    alone (Some x) = record { before = []; after = []; stands = refl; first = tt; least = tt }
least_offer board (e ∷ es) m within =
    let next : List Monitor = board_after board e.request in
    let same : length next ≡ length board = length-after board e.request in
    let rest : IsLeastOf (offers_of next es m) (best_of (fold next es) m) = least_offer next es m (omega arith) in
    more (best_of board m) (report_of m e.request) (reports_of m es) (best_of (fold next es) m)
    (subst (λ (o : Option Best). IsLeastOf (option_to_list o ++ reports_of m es) (best_of (fold next es) m)) (best_after board e.request m within) rest)
