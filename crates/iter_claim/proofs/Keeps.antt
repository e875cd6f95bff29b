-- The steps on the word keep the rule.
use Rattle.std.proofs.Common.{◌≡◌, ◌≢◌, ⊎_elim, ℕ, ◌+◌, ◌-◌, ◌%◌, ◌<◌, ◌≤◌, Bool, true, false, cond, ◌||◌, eqb, eq-eqb, ne_eqb, List, [], ◌∷◌, ◌++◌, length, min, set, get_or, refl, ap, subst, sym, ◌∙◌, arith, length-append, lt_of_not-le}
use mathlib.Core.Option.{none, some}
use native.Mathlib.Decide.{dec_le, ℕ_discrete}
use lib.ListN.{get_elem?}
use Rattle.atomic_table.specs.Table.{Me, Act, keeps, step, Valid, carried_after, homes_after, Allows, Splits, Joins, Final, Seen}
use Rattle.atomic_table.proofs.Lists.{at_set, at_snoc}
use Rattle.iter_claim.specs.declared.view.View.{View}
use Rattle.iter_claim.specs.Numbers.{total, times, AllLess, HoldsEachOnce}
use Rattle.iter_claim.specs.Claiming.{times_drawn, count_drawn, count_nones, count_seats, count_drawers, spent, kept_half, given_half, both, with_drawn, with_none, Fits, Kept, draw_tells}
use Rattle.iter_claim.proofs.Sums.{total_set, total_snoc, total_same, total_at, total_two, total_append, total_only, joined_sum, joined_most}

fits_put : {V : Type 0} (P : ℕ → V → Type 0) (views : List V) (id : ℕ) (w : V) → ((j : ℕ) (u : V) → j ≢ id → get_elem? views j ≡ some u → P j u) → P id w → (j : ℕ) (u : V) → get_elem? (set views id w) j ≡ some u → P j u
fits_put {V} P views id w others mine j u e =
    ⊎_elim
    (λ (x : (j ≡ id) × (w ≡ u)). subst (λ (y : ℕ × V). P y.0 y.1) (λ i. (sym x.0 i, x.1 i)) mine)
    (λ (x : (j ≢ id) × (get_elem? views j ≡ some u)). others j u x.0 x.1)
    (at_set views id j w u e)

less_more : (c : ℕ) (xs : List ℕ) → AllLess c xs → AllLess (c + 1) xs
less_more c [] h = tt
less_more c (x ∷ xs) h = (let a = h.0 in omega arith, less_more c xs h.1)

less_push : (c : ℕ) (xs : List ℕ) → AllLess c xs → AllLess (c + 1) (xs ++ c ∷ [])
less_push c [] h = (omega arith, tt)
less_push c (x ∷ xs) h = (let a = h.0 in omega arith, less_push c xs h.1)

less_append : (c : ℕ) (xs ys : List ℕ) → AllLess c xs → AllLess c ys → AllLess c (xs ++ ys)
less_append c [] ys a b = b
less_append c (x ∷ xs) ys a b = (a.0, less_append c xs ys a.1 b)

fits_more : (n c : ℕ) (u : View) → Fits n c u → Fits n (c + 1) u
fits_more n c u g = record { count = g.count; less = less_more c u.drawn g.less; empty = g.empty; stopped = λ p s. let a = g.stopped p s in omega arith }

times_push : (x c : ℕ) (ys : List ℕ) → times x (ys ++ c ∷ []) ≡ times x ys + cond (eqb c x) 1 0
times_push x c ys = total_snoc (λ (y : ℕ). cond (eqb y x) 1 0) ys c

-- how often x is drawn once c was drawn too
drawn_more : (n c x a b p q : ℕ) → a + p ≡ b + q → (x < n → x < c → b ≡ 1) × (n ≤ x → b ≡ 0) × (c ≤ x → b ≡ 0) → c < n → (c ≡ x → q ≡ p + 1) → (c ≢ x → q ≡ p) → Dec (c ≡ x)
    → (x < n → x < c + 1 → a ≡ 1) × (n ≤ x → a ≡ 0) × (c + 1 ≤ x → a ≡ 0)
drawn_more n c x a b p q sum old room here there (yes e) = let more = here e in let z = old.2 (omega arith) in ((λ _ _. omega arith), (λ h. absurd (omega arith)), (λ h. absurd (omega arith)))
drawn_more n c x a b p q sum old room here there (no ne) = let same = there ne in
    ((λ h k. let ne' : c ≢ x = ne in let z = old.0 h (omega arith) in omega arith), (λ h. let z = old.1 h in omega arith), (λ h. let z = old.2 (omega arith) in omega arith))

pub draws : (n slots id : ℕ) (me : Me (Unit {0}) View) → me.0.count ≡ n → 0 < me.0.seats → me.0.stopped ≡ false → Allows (Kept n) slots id me 0 (λ k. (k + 1) % 18446744073709551616) (draw_tells (step slots 0 1 0 none) me)
draws n slots id me count some_seat going t r wide at _ =
    let G : List ℕ → Type 0 = λ ws. (w : View) × (a : Act (Unit {0})) × Valid t.homes me.1 a × Kept n record { words = set ws 0 ((get_or ws 0 0 + 1) % 18446744073709551616); homes = homes_after t.homes me.1 a; views = set t.views id w } × draw_tells (step slots 0 1 0 none) me (get_or ws 0 0) (w, carried_after me.1 a) in
    subst G (sym r.words) (cases (dec_le n r.draws))
  where
    c : ℕ
    c = r.draws

    wide_enough : (r.draws + 1) % 18446744073709551616 ≡ r.draws + 1
    wide_enough = let a = total_at count_drawers t.views id me.0 at in let s : count_drawers me.0 ≡ me.0.seats = ap (λ b. cond b 0 me.0.seats) going in let m = r.most in let o = r.room in let l = r.small in omega arith

    cases : Dec (n ≤ r.draws) → (w : View) × (a : Act (Unit {0})) × Valid t.homes me.1 a × Kept n record { words = (r.draws + 1) % 18446744073709551616 ∷ []; homes = homes_after t.homes me.1 a; views = set t.views id w } × draw_tells (step slots 0 1 0 none) me r.draws (w, carried_after me.1 a)
    cases (yes h) =
        let v = me.0 in let f = r.each id v at in let w : View = with_none v in (
          w,
          keeps,
          tt,
          record {
            draws = r.draws + 1;
            words = ap (λ (k : ℕ). k ∷ []) wide_enough;
            small = r.small;
            most = (let a = total_set count_nones t.views id v w at in let m = r.most in let x : ℕ = total count_nones (set t.views id w) in let y : ℕ = total count_nones t.views in let a' : x + v.nones ≡ y + (v.nones + 1) = a in omega arith);
            room = (let a = total_set count_nones t.views id v w at in let b = total_set count_drawers t.views id v w at in let m = r.room in let s : count_drawers v ≡ v.seats = ap (λ b. cond b 0 v.seats) going in
                let x : ℕ = total count_nones (set t.views id w) in let y : ℕ = total count_nones t.views in let a' : x + v.nones ≡ y + (v.nones + 1) = a in
                let p : ℕ = total count_drawers (set t.views id w) in let q : ℕ = total count_drawers t.views in let b' : p + count_drawers v ≡ q + 0 = b in omega arith);
            seats = total_same count_seats t.views id v w at refl ∙ r.seats;
            each = fits_put (λ _ u. Fits n (r.draws + 1) u) t.views id w (λ j u _ e. fits_more n r.draws u (r.each j u e))
                record { count = f.count; less = less_more r.draws v.drawn f.less; empty = f.empty; stopped = λ _ _. omega arith };
            drawn = (let a = total_same count_drawn t.views id v w at refl in let d = r.drawn in let x : ℕ = total count_drawn (set t.views id w) in let y : ℕ = total count_drawn t.views in let a' : x ≡ y = a in let d' : y ≡ min r.draws n = d in omega arith);
            once = λ x. let e = total_same (times_drawn x) t.views id v w at refl in let o = r.once x in ((λ a b. e ∙ o.0 a (omega arith)), (λ a. e ∙ o.1 a), (λ a. e ∙ o.2 (omega arith)));
          },
          (refl, (λ lt. absurd (let q : v.count ≡ n = count in omega arith)), (λ _. refl)),
        )
    cases (no h) =
        let v = me.0 in let f = r.each id v at in let w : View = with_drawn v r.draws in let below : r.draws < n = lt_of_not-le h in (
          w,
          keeps,
          tt,
          record {
            draws = r.draws + 1;
            words = ap (λ (k : ℕ). k ∷ []) wide_enough;
            small = r.small;
            most = (let m = r.most in omega arith);
            room = (let a = total_same count_nones t.views id v w at refl in let b = total_same count_drawers t.views id v w at refl in let m = r.room in
                let x : ℕ = total count_nones (set t.views id w) in let y : ℕ = total count_nones t.views in let a' : x ≡ y = a in let p : ℕ = total count_drawers (set t.views id w) in let q : ℕ = total count_drawers t.views in let b' : p ≡ q = b in omega arith);
            seats = total_same count_seats t.views id v w at refl ∙ r.seats;
            each = fits_put (λ _ u. Fits n (r.draws + 1) u) t.views id w (λ j u _ e. fits_more n r.draws u (r.each j u e))
                record { count = f.count; less = less_push r.draws v.drawn f.less; empty = λ z. absurd (omega arith); stopped = λ p s. let a = f.stopped p s in omega arith };
            drawn = (let a = total_set count_drawn t.views id v w at in let d = r.drawn in let l = length-append v.drawn (r.draws ∷ []) in
                let x : ℕ = total count_drawn (set t.views id w) in let y : ℕ = total count_drawn t.views in let p : ℕ = length v.drawn in let q : ℕ = length w.drawn in
                let a' : x + p ≡ y + q = a in let d' : y ≡ min r.draws n = d in let l' : q ≡ p + 1 = l in omega arith);
            once = λ x. let push = times_push x r.draws v.drawn in
                drawn_more n r.draws x (total (times_drawn x) (set t.views id w)) (total (times_drawn x) t.views) (times_drawn x v) (times_drawn x w) (total_set (times_drawn x) t.views id v w at) (r.once x) below
                (λ e. push ∙ ap (λ b. times x v.drawn + cond b 1 0) (eq-eqb r.draws x e)) (λ ne. push ∙ (ap (λ b. times x v.drawn + cond b 1 0) (ne_eqb r.draws x ne) ∙ (omega arith))) (ℕ_discrete r.draws x);
          },
          (refl, (λ _. (refl, f.less)), (λ le. absurd (let q : v.count ≡ n = count in omega arith))),
        )

pub splits : (n id : ℕ) (v : View) → 2 ≤ v.seats → Splits (Kept n) id v (kept_half v) (given_half v)
splits n id v enough t r at = go v.stopped refl
  where
    go : (b : Bool) → v.stopped ≡ b → Kept n record { words = t.words; homes = t.homes; views = set t.views id (kept_half v) ++ given_half v ∷ [] }
    go b is =
        let f = r.each id v at in let w : View = kept_half v in let new : View = given_half v in
        record {
          draws = r.draws;
          words = r.words;
          small = r.small;
          most = (let s = total_snoc count_nones (set t.views id w) new in let a = total_same count_nones t.views id v w at refl in let m = r.most in
              let x : ℕ = total count_nones (set t.views id w ++ new ∷ []) in let y : ℕ = total count_nones (set t.views id w) in let z : ℕ = total count_nones t.views in let s' : x ≡ y + 0 = s in let a' : y ≡ z = a in omega arith);
          room = (let s = total_snoc count_nones (set t.views id w) new in let a = total_same count_nones t.views id v w at refl in let m = r.room in
              let x : ℕ = total count_nones (set t.views id w ++ new ∷ []) in let y : ℕ = total count_nones (set t.views id w) in let z : ℕ = total count_nones t.views in let s' : x ≡ y + 0 = s in let a' : y ≡ z = a in
              let t' = total_snoc count_drawers (set t.views id w) new in let b' = total_set count_drawers t.views id v w at in
              let p : ℕ = total count_drawers (set t.views id w ++ new ∷ []) in let q : ℕ = total count_drawers (set t.views id w) in let u : ℕ = total count_drawers t.views in
              let t'' : p ≡ q + count_drawers new = t' in let b'' : q + count_drawers v ≡ u + count_drawers w = b' in let k : count_drawers w + count_drawers new ≤ count_drawers v = shares v.stopped in omega arith);
          seats = (let s = total_snoc count_seats (set t.views id w) new in let a = total_set count_seats t.views id v w at in let m = r.seats in
              let x : ℕ = total count_seats (set t.views id w ++ new ∷ []) in let y : ℕ = total count_seats (set t.views id w) in let z : ℕ = total count_seats t.views in let s' : x ≡ y + 1 = s in let a' : y + v.seats ≡ z + (v.seats - 1) = a in omega arith);
          each = λ j u there. ⊎_elim
              (λ old. fits_put (λ _ x. Fits n r.draws x) t.views id w (λ i x _ e. r.each i x e) record { count = λ _. f.count (omega arith); less = f.less; empty = λ z. absurd (omega arith); stopped = λ _ s. f.stopped (omega arith) s } j u old)
              (λ (same : new ≡ u). subst (Fits n r.draws) same record { count = λ _. f.count (omega arith); less = tt; empty = λ _. refl; stopped = λ _ s. f.stopped (omega arith) s })
              (at_snoc (set t.views id w) new u j there);
          drawn = (let s = total_snoc count_drawn (set t.views id w) new in let a = total_same count_drawn t.views id v w at refl in let d = r.drawn in
              let x : ℕ = total count_drawn (set t.views id w ++ new ∷ []) in let y : ℕ = total count_drawn (set t.views id w) in let z : ℕ = total count_drawn t.views in let s' : x ≡ y + 0 = s in let a' : y ≡ z = a in let d' : z ≡ min r.draws n = d in omega arith);
          once = λ x. let s = total_snoc (times_drawn x) (set t.views id w) new in let a = total_same (times_drawn x) t.views id v w at refl in let o = r.once x in
              let p : ℕ = total (times_drawn x) (set t.views id w ++ new ∷ []) in let q : ℕ = total (times_drawn x) (set t.views id w) in let u : ℕ = total (times_drawn x) t.views in let s' : p ≡ q + 0 = s in let a' : q ≡ u = a in let e : p ≡ u = omega arith in
              ((λ h k. e ∙ o.0 h k), (λ h. e ∙ o.1 h), (λ h. e ∙ o.2 h));
        }
      where
        shares : (b : Bool) → cond b 0 (v.seats - 1) + cond b 0 1 ≤ cond b 0 v.seats
        shares true = omega arith
        shares false = omega arith

pub joins : (n id : ℕ) (v : View) (other : ℕ) (w : View) → 0 < v.seats → 0 < w.seats → Joins (Kept n) id v other w (both v w) spent
joins n id v other w mine theirs t r at apart there =
    let x : View = both v w in
    let there' : get_elem? t.views other ≡ some w = ⊎_elim (λ (q : (other ≡ id) × (both v w ≡ w)). absurd (apart q.0)) (λ (q : (other ≢ id) × (get_elem? t.views other ≡ some w)). q.1) (at_set t.views id other (both v w) w there) in
    let f = r.each id v at in
    let g = r.each other w there' in
    record {
      draws = r.draws;
      words = r.words;
      small = r.small;
      most = subst (λ (k : ℕ). r.draws ≤ n + k) (sym (joined_sum count_nones t.views id other v w x spent at there refl refl)) r.most;
      room = (let a = joined_sum count_nones t.views id other v w x spent at there refl refl in let b = joined_most count_drawers t.views id other v w x spent at there (shares v.stopped w.stopped) refl in let m = r.room in
          let p : ℕ = total count_nones (set (set t.views id x) other spent) in let q : ℕ = total count_nones t.views in let a' : p ≡ q = a in let y : ℕ = total count_drawers (set (set t.views id x) other spent) in let z : ℕ = total count_drawers t.views in let b' : y ≤ z = b in omega arith);
      seats = joined_sum count_seats t.views id other v w x spent at there refl refl ∙ r.seats;
      each = fits_put (λ _ u. Fits n r.draws u) (set t.views id x) other spent
          (λ j u _ q. fits_put (λ _ u. Fits n r.draws u) t.views id x (λ i y _ e. r.each i y e)
          record { count = λ _. f.count mine; less = less_append r.draws v.drawn w.drawn f.less g.less; empty = λ z. absurd (omega arith); stopped = λ _ s. either_stopped v.stopped refl s (f.stopped mine) (g.stopped theirs) } j u q)
          record { count = λ z. absurd (omega arith); less = tt; empty = λ _. refl; stopped = λ z _. absurd (omega arith) };
      drawn = joined_sum count_drawn t.views id other v w x spent at there (length-append v.drawn w.drawn) refl ∙ r.drawn;
      once = λ y. let e = joined_sum (times_drawn y) t.views id other v w x spent at there (total_append (λ (z : ℕ). cond (eqb z y) 1 0) v.drawn w.drawn) refl in let o = r.once y in ((λ h k. e ∙ o.0 h k), (λ h. e ∙ o.1 h), (λ h. e ∙ o.2 h));
    }
  where
    shares : (a b : Bool) → cond (a || b) 0 (v.seats + w.seats) ≤ cond a 0 v.seats + cond b 0 w.seats
    shares true b = omega arith
    shares false true = omega arith
    shares false false = omega arith

    either_stopped : {X : Type 0} (b : Bool) → v.stopped ≡ b → (v.stopped || w.stopped) ≡ true → (v.stopped ≡ true → X) → (w.stopped ≡ true → X) → X
    either_stopped true is s a c = a is
    either_stopped false is s a c = c (ap (λ b. b || w.stopped) (sym is) ∙ s)

-- what the last seat learns
pub closes : (n id : ℕ) (v : View) (words : List ℕ) (slots : List (Unit {0})) → v.seats ≡ 4294967296 → Final (Seen (Kept n) id v) words slots
    → HoldsEachOnce v.drawn × (length v.drawn ≤ n) × (v.stopped ≡ true → length v.drawn ≡ n)
closes n id v words slots all final =
    let t = final.0 in let r = final.1.0 in let at = final.1.1 in
    let none_else : (j : ℕ) (u : View) → j ≢ id → get_elem? t.views j ≡ some u → u.drawn ≡ [] = λ j u ne e.
    let two = total_two count_seats t.views id j v u (λ q. ne (sym q)) at e in let s = r.seats in (r.each j u e).empty (omega arith) in
    let count : length v.drawn ≡ min r.draws n = sym (total_only count_drawn t.views id v at (λ j u ne e. ap length (none_else j u ne e))) ∙ r.drawn in
    let only : (x : ℕ) → total (times_drawn x) t.views ≡ times x v.drawn = λ x. total_only (times_drawn x) t.views id v at (λ j u ne e. ap (times x) (none_else j u ne e)) in (
      record {
        once = λ x h. sym (only x) ∙ (r.once x).0 (omega arith) (omega arith);
        no_other = λ x h. sym (only x) ∙ beyond x (r.once x) (dec_le n x) (omega arith);
      },
      omega arith,
      (λ stopped. let over = (r.each id v at).stopped (omega arith) stopped in omega arith),
    )
  where
    beyond : {a : ℕ} (x : ℕ) → ((x < n → x < final.1.0.draws → a ≡ 1) × (n ≤ x → a ≡ 0) × (final.1.0.draws ≤ x → a ≡ 0)) → Dec (n ≤ x) → min final.1.0.draws n ≤ x → a ≡ 0
    beyond x o (yes h) m = o.1 h
    beyond x o (no h) m = o.2 (let l = lt_of_not-le h in omega arith)
