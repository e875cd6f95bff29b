-- The search for components, through each of its steps.
use Rattle.std.proofs.Common.{Vec, ℕ, ◌+◌, ◌<◌, ◌≤◌, ◌≡◌, ◌⊎◌, ◌∙◌, List, [], ◌∷◌, ◌++◌, length, get_or, take, subst, sym, ap, inl, inr, refl, arith}
use Rattle.std.specs.declared.alloc.Global.{Global}
use Rattle.std.proofs.lemmas.Bool.{cases_eq, cases_lt}
use Rattle.std.proofs.lemmas.List.{length_push, get_or_push, get_or_append_left, get_or-take, length-take-le}
use Rattle.layer_plan.specs.Dependencies.{list_of, DependsOn}
use Rattle.layer_plan.specs.Nearness.{HasWay}
use Rattle.layer_plan.specs.Search.{IsLast}
use Rattle.layer_plan.specs.Components.{IsNoEarlier, IsPlaced, IsTrailing, AreStarts, IsSeen, IsLinked, IsSettled}
use Rattle.layer_plan.specs.declared.components.Mark.{Mark}
use Rattle.layer_plan.specs.declared.components.Mark.TheVariants.{Untouched, Open, Closed}
use Rattle.layer_plan.proofs.Ways.{way_self, way_join, way_step}

abbrev IsOld : List ℕ → List ℕ → ℕ → Type 0
IsOld q q' i = (i < length q) × (get_or q' i 0 ≡ get_or q i 0)

at_push : (q : List ℕ) (x i : ℕ) → i < length (q ++ x ∷ []) → IsOld q (q ++ x ∷ []) i ⊎ ((i ≡ length q) × (get_or (q ++ x ∷ []) i 0 ≡ x))
at_push q x i lt = elim (cases_lt i (length q)) [ inl h ↦ inl (h, get_or_append_left q (x ∷ []) 0 i h) | inr h ↦ (let e : i ≡ length q = omega (arith, length_push q x) in inr (e, get_or_push q x 0 i (sym e))) ]

-- all starts are at most the last
starts_low : (n : ℕ) (starts : List ℕ) (start k : ℕ) → AreStarts n starts → IsLast starts start → k < length starts → get_or starts k 0 ≤ start
starts_low n starts start k s last lt =
    let at = last.1 in
    let is = last.2 in
    elim (cases_eq k last.0) [ inl e ↦ (let f = ap (λ j. get_or starts j 0) e in omega arith) | inr ne ↦ (let r = s.rising k last.0 (omega arith) (omega arith) in omega arith) ]

-- what is in the last component is no earlier than anything
pub last_no_earlier : (n : ℕ) (starts : List ℕ) (start i j : ℕ) → AreStarts n starts → IsLast starts start → start ≤ j → IsNoEarlier starts i j
last_no_earlier n starts start i j s last le = λ k lt h. (let a = starts_low n starts start k s last lt in omega arith)

-- the starts without the last
pub fewer : (starts : List ℕ) (p k : ℕ) → p + 1 ≡ length starts → k < length (take p starts) → (k < p) × (get_or (take p starts) k 0 ≡ get_or starts k 0)
fewer starts p k at lt = let size : length (take p starts) ≡ p = length-take-le p starts (omega arith) in (omega arith, get_or-take p starts k 0 (omega arith))

pub no_earlier_fewer : (starts : List ℕ) (p i j : ℕ) → p + 1 ≡ length starts → IsNoEarlier starts i j → IsNoEarlier (take p starts) i j
no_earlier_fewer starts p i j at h = λ k lt le. (let f = fewer starts p k at lt in let e = f.1 in let g = f.0 in let r = h k (omega arith) (omega arith) in omega arith)

-- with the last start again
pub no_earlier_more : (starts : List ℕ) (p start i j : ℕ) → p + 1 ≡ length starts → get_or starts p 0 ≡ start → (start ≤ i → start ≤ j) → IsNoEarlier (take p starts) i j → IsNoEarlier starts i j
no_earlier_more starts p start i j at is last h = λ k lt le. elim (cases_eq k p) [
  | inl e ↦ (let f = ap (λ m. get_or starts m 0) e in let g = last (omega arith) in omega arith)
  | inr ne ↦ (let size : length (take p starts) ≡ p = length-take-le p starts (omega arith) in let e = get_or-take p starts k 0 (omega arith) in let r = h k (omega arith) (omega arith) in omega arith)
]

-- the trail's last item is left, whose list was looked at
pub Trailing-pop : (deps : List (Vec ℕ Global)) (mark : ℕ → Mark) (rest place : ℕ → ℕ) (trail : List ℕ) (i x : ℕ) → IsTrailing deps mark rest place trail → i + 1 ≡ length trail → get_or trail i 0 ≡ x → rest x ≡ 0 → IsTrailing deps mark rest place (take i trail)
Trailing-pop deps mark rest place trail i x t at is none =
    let size : length (take i trail) ≡ i = length-take-le i trail (omega arith) in
    let read : (j : ℕ) → j < length (take i trail) → get_or (take i trail) j 0 ≡ get_or trail j 0 = λ j h. get_or-take i trail j 0 (omega arith) in
    record {
      items = λ j h. subst (λ y. y < length deps) (sym (read j h)) (t.items j (omega arith));
      open_each = λ j h. subst (λ y. mark y ≡ Open) (sym (read j h)) (t.open_each j (omega arith));
      rising = λ j m lt h. (let hj : j < length (take i trail) = omega arith in let a = ap place (read j hj) in let b = ap place (read m h) in let r = t.rising j m lt (omega arith) in omega arith);
      left = λ v lt o some. (let w = t.left v lt o some in let w_in = w.1 in elim (cases_eq w.0 i) [
        | inl e ↦ (let f = ap rest (sym w.2 ∙ ap (λ k. get_or trail k 0) e ∙ is) in absurd (omega arith))
        | inr ne ↦ (let w_new : w.0 < length (take i trail) = omega arith in (w.0, w_new, read w.0 w_new ∙ w.2))
      ]);
    }

-- the last component is joined to the one before
pub Starts-join : (n : ℕ) (starts : List ℕ) (p start before : ℕ) → AreStarts n starts → p + 1 ≡ length starts → get_or starts p 0 ≡ start → before < start → before < n → AreStarts n (take p starts)
Starts-join n starts p start before s at is lt before_in =
    let size : length (take p starts) ≡ p = length-take-le p starts (omega arith) in
    let read : (k : ℕ) → k < p → get_or (take p starts) k 0 ≡ get_or starts k 0 = λ k h. get_or-take p starts k 0 h in
    let low : (k : ℕ) × (k < p) × (get_or starts k 0 < start) =
    (let w = s.some before before_in in let w_in = w.1 in let le = w.2 in elim (cases_eq w.0 p) [ inl e ↦ (let f = ap (λ m. get_or starts m 0) e in absurd (omega arith)) | inr ne ↦ (w.0, omega arith, omega arith) ]) in
    record {
      within = λ k h. (let e = read k (omega arith) in let a = s.within k (omega arith) in omega arith);
      rising = λ i j lt h. (let a = read i (omega arith) in let b = read j (omega arith) in let r = s.rising i j lt (omega arith) in omega arith);
      some = λ i h. (let w = s.some i h in let w_in = w.1 in let le = w.2 in elim (cases_eq w.0 p) [
        | inl e ↦ (let f = ap (λ m. get_or starts m 0) e in let g = low.1 in let l = low.2 in let r = read low.0 low.1 in (low.0, omega arith, omega arith))
        | inr ne ↦ (let k_in : w.0 < p = omega arith in let r = read w.0 k_in in (w.0, omega arith, omega arith))
      ]);
    }

pub Seen-join : (deps : List (Vec ℕ Global)) (mark : ℕ → Mark) (rest place : ℕ → ℕ) (starts : List ℕ) (p : ℕ) → IsSeen deps mark rest place starts → p + 1 ≡ length starts → IsSeen deps mark rest place (take p starts)
Seen-join deps mark rest place starts p s at = record {
  fresh = s.fresh;
  within = s.within;
  touched = s.touched;
  no_earlier = λ v k lt o a b e. no_earlier_fewer starts p (place v) (place (get_or (list_of deps v) k 0)) at (s.no_earlier v k lt o a b e);
}

-- the last component leads to the item `x` at place `px` in it, that to `y` at `py` before it
pub Linked-join : (deps : List (Vec ℕ Global)) (path starts : List ℕ) (p start x y px py : ℕ) → IsLinked deps path starts → AreStarts (length path) starts → p + 1 ≡ length starts → get_or starts p 0 ≡ start → px < length path → get_or path px 0 ≡ x → start ≤ px → py < length path → get_or path py 0 ≡ y → py < start → DependsOn deps x y → IsLinked deps path (take p starts)
Linked-join deps path starts p start x y px py l s at is px_in px_is behind py_in py_is before dep = λ i j i_in j_in h.
    elim (cases_lt i start) [
      | inl lt ↦ l i j i_in j_in (no_earlier_more starts p start i j at is (λ le. absurd (omega arith)) h)
      | inr ge ↦ (let to_x : HasWay deps (get_or path i 0) x = subst (λ v. HasWay deps (get_or path i 0) v) px_is (l i px i_in px_in (last_no_earlier (length path) starts start i px s (p, at, is) behind)) in
          let from_y : HasWay deps y (get_or path j 0) = subst (λ v. HasWay deps v (get_or path j 0)) py_is (l py j py_in j_in (no_earlier_more starts p start py j at is (λ le. absurd (omega arith)) (λ k lt le. h k lt (omega arith)))) in
          way_join deps (get_or path i 0) x (get_or path j 0) to_x (way_join deps x y (get_or path j 0) (way_step deps x y dep) from_y))
    ]

-- what changes where an untouched item is opened
pub record Opens (deps : List (Vec ℕ Global)) (mark mark' : ℕ → Mark) (place place' : ℕ → ℕ) (n x : ℕ) : Type 0 where
  pub x_in : x < length deps
  pub was : mark x ≡ Untouched
  pub is : mark' x ≡ Open
  pub same : (v : ℕ) → (v ≡ x → ⊥) → mark' v ≡ mark v
  pub place_is : place' x ≡ n
  pub place_same : (v : ℕ) → (v ≡ x → ⊥) → place' v ≡ place v

open_other : (mark : ℕ → Mark) (x v : ℕ) → mark x ≡ Untouched → mark v ≡ Open → v ≡ x → ⊥
open_other mark x v was is e = let f = ap mark e in cc

-- what is no longer untouched is the item, or was touched before
touched_other : (mark mark' : ℕ → Mark) (x v : ℕ) (m : Mark) → mark' x ≡ Open → ((v : ℕ) → (v ≡ x → ⊥) → mark' v ≡ mark v) → (Open ≡ m → ⊥) → mark' v ≡ m → (v ≡ x → ⊥) × (mark v ≡ m)
touched_other mark mark' x v m is same ne e = elim (cases_eq v x) [ inl q ↦ absurd (ne (sym is ∙ sym (ap mark' q) ∙ e)) | inr n ↦ (n, sym (same v n) ∙ e) ]

pub Placed-open : (deps : List (Vec ℕ Global)) (mark mark' : ℕ → Mark) (place place' : ℕ → ℕ) (path : List ℕ) (x : ℕ) → Opens deps mark mark' place place' (length path) x → IsPlaced deps mark place path → IsPlaced deps mark' place' (path ++ x ∷ [])
Placed-open deps mark mark' place place' path x o p =
    let size : length (path ++ x ∷ []) ≡ length path + 1 = length_push path x in
    let ne : (i : ℕ) → i < length path → get_or path i 0 ≡ x → ⊥ = λ i lt. open_other mark x (get_or path i 0) o.was (p.open_each i lt) in
    record {
      items = λ i lt. elim (at_push path x i lt) [ inl h ↦ subst (λ y. y < length deps) (sym h.1) (p.items i h.0) | inr h ↦ subst (λ y. y < length deps) (sym h.1) o.x_in ];
      open_each = λ i lt. elim (at_push path x i lt) [ inl h ↦ subst (λ y. mark' y ≡ Open) (sym h.1) (o.same _ (ne i h.0) ∙ p.open_each i h.0) | inr h ↦ subst (λ y. mark' y ≡ Open) (sym h.1) o.is ];
      place_of = λ i lt. elim (at_push path x i lt) [ inl h ↦ ap place' h.1 ∙ o.place_same _ (ne i h.0) ∙ p.place_of i h.0 | inr h ↦ ap place' h.1 ∙ o.place_is ∙ sym h.0 ];
      place_in = λ v lt e. elim (cases_eq v x) [ inl q ↦ (let f = ap place' q in let g = o.place_is in omega arith) | inr n ↦ (let f = o.place_same v n in let g = p.place_in v lt (sym (o.same v n) ∙ e) in omega arith) ];
      at_place = λ v lt e. elim (cases_eq v x) [
        | inl q ↦ get_or_push path x 0 (place' v) (sym (ap place' q ∙ o.place_is)) ∙ sym q
        | inr n ↦ (let was : mark v ≡ Open = sym (o.same v n) ∙ e in let f = o.place_same v n in ap (λ k. get_or (path ++ x ∷ []) k 0) f ∙ get_or_append_left path (x ∷ []) 0 (place v) (p.place_in v lt was) ∙ p.at_place v lt was)
      ];
    }

pub Trailing-open : (deps : List (Vec ℕ Global)) (mark mark' : ℕ → Mark) (rest place place' : ℕ → ℕ) (path trail : List ℕ) (x : ℕ) → Opens deps mark mark' place place' (length path) x → IsPlaced deps mark place path → IsTrailing deps mark rest place trail → IsTrailing deps mark' rest place' (trail ++ x ∷ [])
Trailing-open deps mark mark' rest place place' path trail x o p t =
    let size : length (trail ++ x ∷ []) ≡ length trail + 1 = length_push trail x in
    let ne : (i : ℕ) → i < length trail → get_or trail i 0 ≡ x → ⊥ = λ i lt. open_other mark x (get_or trail i 0) o.was (t.open_each i lt) in
    let low : (i : ℕ) → i < length trail → place' (get_or trail i 0) ≡ place (get_or trail i 0) = λ i lt. o.place_same _ (ne i lt) in
    record {
      items = λ i lt. elim (at_push trail x i lt) [ inl h ↦ subst (λ y. y < length deps) (sym h.1) (t.items i h.0) | inr h ↦ subst (λ y. y < length deps) (sym h.1) o.x_in ];
      open_each = λ i lt. elim (at_push trail x i lt) [ inl h ↦ subst (λ y. mark' y ≡ Open) (sym h.1) (o.same _ (ne i h.0) ∙ t.open_each i h.0) | inr h ↦ subst (λ y. mark' y ≡ Open) (sym h.1) o.is ];
      rising = λ i j lt lj. elim (at_push trail x j lj) [
        | inl h ↦ (let j_in = h.0 in let i_in : i < length trail = omega arith in let a = ap place' (get_or_append_left trail (x ∷ []) 0 i i_in) in let b = ap place' h.1 in let la = low i i_in in let lb = low j h.0 in let r = t.rising i j lt h.0 in omega arith)
        | inr h ↦ (let j_at = h.0 in let i_in : i < length trail = omega arith in let a = ap place' (get_or_append_left trail (x ∷ []) 0 i i_in) in let b = ap place' h.1 in let la = low i i_in in let r = p.place_in _ (t.items i i_in) (t.open_each i i_in) in let g = o.place_is in omega arith)
      ];
      left = λ v lt e some. elim (cases_eq v x) [
        | inl q ↦ (length trail, omega arith, get_or_push trail x 0 (length trail) refl ∙ sym q)
        | inr n ↦ (let w = t.left v lt (sym (o.same v n) ∙ e) some in let w_in = w.1 in (w.0, omega arith, get_or_append_left trail (x ∷ []) 0 w.0 w.1 ∙ w.2))
      ];
    }

pub Starts-open : (n m : ℕ) (starts : List ℕ) → m ≡ n + 1 → AreStarts n starts → AreStarts m (starts ++ n ∷ [])
Starts-open n m starts more s =
    let size : length (starts ++ n ∷ []) ≡ length starts + 1 = length_push starts n in
    record {
      within = λ k lt. elim (at_push starts n k lt) [ inl h ↦ (let e = h.1 in let w = s.within k h.0 in omega arith) | inr h ↦ (let e = h.1 in omega arith) ];
      rising = λ i j lt lj. elim (at_push starts n j lj) [
        | inl h ↦ (let j_in = h.0 in let i_in : i < length starts = omega arith in let a = get_or_append_left starts (n ∷ []) 0 i i_in in let b = h.1 in let r = s.rising i j lt h.0 in omega arith)
        | inr h ↦ (let j_at = h.0 in let i_in : i < length starts = omega arith in let a = get_or_append_left starts (n ∷ []) 0 i i_in in let b = h.1 in let w = s.within i i_in in omega arith)
      ];
      some = λ i lt. elim (cases_lt i n) [
        | inl h ↦ (let w = s.some i h in let w_in = w.1 in let le = w.2 in let a = get_or_append_left starts (n ∷ []) 0 w.0 w.1 in (w.0, omega arith, omega arith))
        | inr h ↦ (let a = get_or_push starts n 0 (length starts) refl in (length starts, omega arith, omega arith))
      ];
    }

no_earlier_open : (starts : List ℕ) (n i j : ℕ) → i < n → IsNoEarlier starts i j → IsNoEarlier (starts ++ n ∷ []) i j
no_earlier_open starts n i j lt h = λ k k_in le. elim (at_push starts n k k_in) [ inl o ↦ (let e = o.1 in let r = h k o.0 (omega arith) in omega arith) | inr o ↦ (let e = o.1 in omega arith) ]

no_earlier_before : (starts : List ℕ) (n i j : ℕ) → IsNoEarlier (starts ++ n ∷ []) i j → IsNoEarlier starts i j
no_earlier_before starts n i j h = λ k k_in le. (let size : length (starts ++ n ∷ []) ≡ length starts + 1 = length_push starts n in let e = get_or_append_left starts (n ∷ []) 0 k k_in in let r = h k (omega arith) (omega arith) in omega arith)

pub Seen-open : (deps : List (Vec ℕ Global)) (mark mark' : ℕ → Mark) (rest place place' : ℕ → ℕ) (path starts : List ℕ) (x : ℕ) → Opens deps mark mark' place place' (length path) x → IsPlaced deps mark place path → IsSeen deps mark rest place starts → IsSeen deps mark' rest place' (starts ++ length path ∷ [])
Seen-open deps mark mark' rest place place' path starts x o p s =
    let full : (k : ℕ) → rest x ≤ k → k < length (list_of deps x) → ⊥ = λ k a b. (let e = s.fresh x o.x_in o.was in absurd (omega arith)) in
    record {
      fresh = λ v lt e. s.fresh v lt (touched_other mark mark' x v Untouched o.is o.same (λ h. cc) e).1;
      within = s.within;
      touched = λ v k lt e a b u. elim (cases_eq v x) [
        | inl q ↦ full k (subst (λ y. rest y ≤ k) q a) (subst (λ y. k < length (list_of deps y)) q b)
        | inr n ↦ s.touched v k lt (sym (o.same v n) ∙ e) a b (touched_other mark mark' x _ Untouched o.is o.same (λ h. cc) u).1
      ];
      no_earlier = λ v k lt e a b u. elim (cases_eq v x) [
        | inl q ↦ absurd (full k (subst (λ y. rest y ≤ k) q a) (subst (λ y. k < length (list_of deps y)) q b))
        | inr n ↦ (let w = get_or (list_of deps v) k 0 in
            let was : mark v ≡ Open = sym (o.same v n) ∙ e in
            elim (cases_eq w x) [
              | inl q ↦ absurd (s.touched v k lt was a b (ap mark q ∙ o.was))
              | inr m ↦ (let r = s.no_earlier v k lt was a b (sym (o.same w m) ∙ u) in
                  let v_in = p.place_in v lt was in
                  subst (λ y. IsNoEarlier (starts ++ length path ∷ []) y (place' w)) (sym (o.place_same v n)) (subst (λ y. IsNoEarlier (starts ++ length path ∷ []) (place v) y) (sym (o.place_same w m)) (no_earlier_open starts (length path) (place v) (place w) v_in r)))
            ])
      ];
    }

pub Linked-open : (deps : List (Vec ℕ Global)) (path starts : List ℕ) (x : ℕ) → IsLinked deps path starts → ((i : ℕ) → i < length path → HasWay deps (get_or path i 0) x) → IsLinked deps (path ++ x ∷ []) (starts ++ length path ∷ [])
Linked-open deps path starts x l leads = λ i j i_in j_in h.
    elim (at_push path x i i_in) [
      | inl a ↦ (elim (at_push path x j j_in) [
        | inl b ↦ subst (λ y. HasWay deps y (get_or (path ++ x ∷ []) j 0)) (sym a.1) (subst (λ y. HasWay deps (get_or path i 0) y) (sym b.1) (l i j a.0 b.0 (no_earlier_before starts (length path) i j h)))
        | inr b ↦ subst (λ y. HasWay deps y (get_or (path ++ x ∷ []) j 0)) (sym a.1) (subst (λ y. HasWay deps (get_or path i 0) y) (sym b.1) (leads i a.0))
      ])
      | inr a ↦ (elim (at_push path x j j_in) [
        | inl b ↦ (let size : length (starts ++ length path ∷ []) ≡ length starts + 1 = length_push starts (length path) in let e = get_or_push starts (length path) 0 (length starts) refl in let at = a.0 in let j_low = b.0 in let r = h (length starts) (omega arith) (omega arith) in absurd (omega arith))
        | inr b ↦ way_self deps _ _ (a.1 ∙ sym b.1)
      ])
    ]

pub Settled-open : (deps : List (Vec ℕ Global)) (mark mark' : ℕ → Mark) (place place' : ℕ → ℕ) (n x least : ℕ) → Opens deps mark mark' place place' n x → IsSettled deps mark least → IsSettled deps mark' least
Settled-open deps mark mark' place place' n x least o s = record {
  closed = λ v w e d. (let was = (touched_other mark mark' x v Closed o.is o.same (λ h. cc) e).1 in let w_was = s.closed v w was d in o.same w (λ q. (let f = ap mark q in let g = o.was in cc)) ∙ w_was);
  least_of = λ v e. s.least_of v (touched_other mark mark' x v Closed o.is o.same (λ h. cc) e).1;
  on_itself = s.on_itself;
  lies = s.lies;
}

-- what changes where one entry more of the list of `x`, that at `p`, was looked at
pub record Passes (rest rest' : ℕ → ℕ) (x p : ℕ) : Type 0 where
  pub was : rest x ≡ p + 1
  pub is : rest' x ≡ p
  pub same : (v : ℕ) → (v ≡ x → ⊥) → rest' v ≡ rest v

passes_less : (rest rest' : ℕ → ℕ) (x p v : ℕ) → Passes rest rest' x p → rest' v ≤ rest v
passes_less rest rest' x p v o = elim (cases_eq v x) [ inl e ↦ (let a = ap rest e in let b = ap rest' e in let c = o.was in let d = o.is in omega arith) | inr n ↦ (let a = o.same v n in omega arith) ]

-- an entry that was looked at was so before, or is the new one
passes_at : (rest rest' : ℕ → ℕ) (x p v k : ℕ) → Passes rest rest' x p → rest' v ≤ k → (rest v ≤ k) ⊎ ((v ≡ x) × (k ≡ p))
passes_at rest rest' x p v k o le = elim (cases_eq v x) [
  | inl e ↦ (let a = ap rest e in let b = ap rest' e in let c = o.was in let d = o.is in elim (cases_eq k p) [ inl q ↦ inr (e, q) | inr n ↦ inl (omega arith) ])
  | inr n ↦ (let a = o.same v n in inl (omega arith))
]

pub Trailing-pass : (deps : List (Vec ℕ Global)) (mark : ℕ → Mark) (rest rest' place : ℕ → ℕ) (trail : List ℕ) (x p : ℕ) → Passes rest rest' x p → IsTrailing deps mark rest place trail → IsTrailing deps mark rest' place trail
Trailing-pass deps mark rest rest' place trail x p o t = record {
  items = t.items;
  open_each = t.open_each;
  rising = t.rising;
  left = λ v lt e some. t.left v lt e (let a = passes_less rest rest' x p v o in omega arith);
}

pub Seen-pass : (deps : List (Vec ℕ Global)) (mark : ℕ → Mark) (rest rest' place : ℕ → ℕ) (starts : List ℕ) (x p w : ℕ) → Passes rest rest' x p → mark x ≡ Open → get_or (list_of deps x) p 0 ≡ w → (mark w ≡ Untouched → ⊥) → (mark w ≡ Open → IsNoEarlier starts (place x) (place w)) → IsSeen deps mark rest place starts → IsSeen deps mark rest' place starts
Seen-pass deps mark rest rest' place starts x p w o opened at touched behind s =
    let entry : (v k : ℕ) → v ≡ x → k ≡ p → get_or (list_of deps v) k 0 ≡ w = λ v k e q. ap (λ y. get_or (list_of deps y) k 0) e ∙ ap (λ y. get_or (list_of deps x) y 0) q ∙ at in
    record {
      fresh = λ v lt e. o.same v (λ q. open_other mark v x e opened (sym q)) ∙ s.fresh v lt e;
      within = λ v lt. (let a = passes_less rest rest' x p v o in let b = s.within v lt in omega arith);
      touched = λ v k lt e a b. elim (passes_at rest rest' x p v k o a) [ inl h ↦ s.touched v k lt e h b | inr h ↦ subst (λ y. mark y ≡ Untouched → ⊥) (sym (entry v k h.0 h.1)) touched ];
      no_earlier = λ v k lt e a b. elim (passes_at rest rest' x p v k o a) [
        | inl h ↦ s.no_earlier v k lt e h b
        | inr h ↦ subst (λ y. mark y ≡ Open → IsNoEarlier starts (place v) (place y)) (sym (entry v k h.0 h.1)) (subst (λ y. mark w ≡ Open → IsNoEarlier starts (place y) (place w)) (sym h.0) behind)
      ];
    }

-- where the trail's last item is before the place, all of it is
pub trail_low : (deps : List (Vec ℕ Global)) (mark : ℕ → Mark) (rest place : ℕ → ℕ) (trail : List ℕ) (x start : ℕ) → IsTrailing deps mark rest place trail → IsLast trail x → place x < start → (i : ℕ) → i < length trail → place (get_or trail i 0) < start
trail_low deps mark rest place trail x start t last low i i_in =
    let size = last.1 in
    let at = ap place last.2 in
    elim (cases_eq i last.0) [
      | inl e ↦ (let f = ap (λ k. place (get_or trail k 0)) e in omega arith)
      | inr n ↦ (let r = t.rising i last.0 (omega arith) (omega arith) in omega arith)
    ]
