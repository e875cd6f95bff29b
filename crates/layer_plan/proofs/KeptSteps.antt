-- What the search keeps, through each of its steps. The state is a few functions from the items.
use Rattle.std.proofs.Common.{Vec, ℕ, ◌+◌, ◌<◌, ◌≤◌, ◌≡◌, ◌⊎◌, ◌∙◌, List, length, get_or, max, set, sum_by, subst, sym, ap, inl, inr, arith}
use Rattle.std.specs.declared.alloc.Global.{Global}
use Rattle.std.proofs.lemmas.Bool.{cases_eq, cases_lt}
use Rattle.layer_plan.specs.Dependencies.{list_of, DependsOn}
use Rattle.std.proofs.lemmas.List.{get_or-set_same, get_or-set_other}
use Rattle.std.proofs.lemmas.List.Sums.{sum_by-set, sum_by-le}
use Rattle.layer_plan.specs.Search.{Kept, IsReached, is_left}
use Rattle.layer_plan.specs.declared.search.Stage.{Stage}
use Rattle.layer_plan.specs.declared.search.Stage.TheVariants.{Untouched, Open, Placed}

-- the stages change: what is placed stays so, and what becomes so has no rest
pub Kept-change : (deps : List (Vec ℕ Global)) (s s' : ℕ → Stage) (l r : ℕ → ℕ) (u u' : ℕ) → Kept deps s l r u → u' ≤ u → ((w : ℕ) → s w ≡ Placed → s' w ≡ Placed) → ((w : ℕ) → s' w ≡ Placed → (s w ≡ Placed) ⊎ ((r w ≡ 0) × (u' < u))) → Kept deps s' l r u'
Kept-change deps s s' l r u u' k le keep new = record {
  within = k.within;
  placed = λ v i lt a b. keep _ (k.placed v i lt a b);
  below = k.below;
  reached = λ v lt. elim (k.reached v lt) [ inl e ↦ inl e | inr w ↦ inr (w.0, w.1, keep w.0 w.2, w.3) ];
  done = λ v lt p. elim (new v p) [ inl e ↦ k.done v lt e | inr w ↦ w.0 ];
  room = λ v lt. let h = k.room v lt in omega arith;
  room_placed = λ v lt p. elim (new v p) [ inl e ↦ (let h = k.room_placed v lt e in omega arith) | inr w ↦ (let h = k.room v lt in omega arith) ];
}

open_is_not_placed : (s : ℕ → Stage) (x z : ℕ) → s x ≡ Open → s z ≡ Placed → z ≡ x → ⊥
open_is_not_placed s x z o p e = let q : s z ≡ s x = ap s e in cc

max_cases : (a b : ℕ) → (max a b ≡ a) ⊎ (max a b ≡ b)
max_cases a b = elim (cases_lt a b) [ inl h ↦ inr (omega arith) | inr h ↦ inl (omega arith) ]

-- what stands at place `i` of the list of `v`, where that of the item `x` was looked at down to `p`
abbrev IsOlder : List (Vec ℕ Global) → (ℕ → ℕ) → ℕ → ℕ → ℕ → ℕ → ℕ → Type 0
IsOlder deps r x p w v i = (r v ≤ i) ⊎ ((v ≡ x) × (get_or (list_of deps v) i 0 ≡ w))

older : (deps : List (Vec ℕ Global)) (r r' : ℕ → ℕ) (x p w v i : ℕ) → r x ≡ p + 1 → r' x ≡ p → ((v : ℕ) → (v ≡ x → ⊥) → r' v ≡ r v) → get_or (list_of deps x) p 0 ≡ w → r' v ≤ i → IsOlder deps r x p w v i
older deps r r' x p w v i rx r'x same at le =
    elim (cases_eq v x) [
      | inl e ↦ (let e1 = ap r' e in let e2 = ap r e in elim (cases_lt i (p + 1)) [
        | inl h ↦ (let e3 : i ≡ p = omega arith in inr (e, ap (λ y. get_or (list_of deps y) i 0) e ∙ ap (λ y. get_or (list_of deps x) y 0) e3 ∙ at))
        | inr h ↦ inl (omega arith)
      ])
      | inr n ↦ inl (subst (λ y. y ≤ i) (same v n) le)
    ]

-- one entry more of the list of an opened item was looked at
pub Kept-pass : (deps : List (Vec ℕ Global)) (s : ℕ → Stage) (l l' r r' : ℕ → ℕ) (u x p w : ℕ) → Kept deps s l r u → x < length deps → s x ≡ Open → r x ≡ p + 1 → get_or (list_of deps x) p 0 ≡ w → w < length deps → DependsOn deps x w → s w ≡ Placed → l' x ≡ max (l x) (l w + 1) → r' x ≡ p → ((v : ℕ) → (v ≡ x → ⊥) → l' v ≡ l v) → ((v : ℕ) → (v ≡ x → ⊥) → r' v ≡ r v) → Kept deps s l' r' u
Kept-pass deps s l l' r r' u x p w k x_in opened rx at w_in dep w_placed lx r'x l_same r_same =
    let same_placed : (z : ℕ) → s z ≡ Placed → l' z ≡ l z = λ z q. l_same z (open_is_not_placed s x z opened q) in
    let grows : (v : ℕ) → l v ≤ l' v = λ v. elim (cases_eq v x) [ inl e ↦ (let e1 = ap l e in let e2 = ap l' e in omega arith) | inr n ↦ (let e = l_same v n in omega arith) ] in
    let old_reached : (v : ℕ) → IsReached deps s l v → l' v ≡ l v → IsReached deps s l' v =
    λ v h e. elim h [ inl z ↦ inl (e ∙ z) | inr t ↦ inr (t.0, t.1, t.2, e ∙ t.3 ∙ ap (λ n. n + 1) (sym (same_placed t.0 t.2))) ] in
    record {
      within = λ v lt. elim (cases_eq v x) [ inl e ↦ (let e1 = ap r' e in let e2 = k.within x x_in in let e3 : length (list_of deps v) ≡ length (list_of deps x) = ap (λ y. length (list_of deps y)) e in omega arith) | inr n ↦ subst (λ y. y ≤ length (list_of deps v)) (sym (r_same v n)) (k.within v lt) ];
      placed = λ v i lt a b. elim (older deps r r' x p w v i rx r'x r_same at a) [ inl h ↦ k.placed v i lt h b | inr h ↦ subst (λ y. s y ≡ Placed) (sym h.1) w_placed ];
      below = λ v i lt a b. elim (older deps r r' x p w v i rx r'x r_same at a) [
        | inl h ↦ (let e1 = same_placed _ (k.placed v i lt h b) in let e2 = k.below v i lt h b in let e3 = grows v in omega arith)
        | inr h ↦ (let e1 = same_placed w w_placed in let e2 = ap l' h.1 in let e3 = ap l' h.0 in omega arith)
      ];
      reached = λ v lt. elim (cases_eq v x) [
        | inl e ↦ (elim (max_cases (l x) (l w + 1)) [
          | inl m ↦ old_reached v (k.reached v lt) (ap l' e ∙ lx ∙ m ∙ sym (ap l e))
          | inr m ↦ inr (w, subst (λ y. DependsOn deps y w) (sym e) dep, w_placed, ap l' e ∙ lx ∙ m ∙ ap (λ n. n + 1) (sym (same_placed w w_placed)))
        ])
        | inr n ↦ old_reached v (k.reached v lt) (l_same v n)
      ];
      done = λ v lt q. (let e = r_same v (open_is_not_placed s x v opened q) in e ∙ k.done v lt q);
      room = λ v lt. elim (cases_eq v x) [
        | inl e ↦ (let e1 = ap l' e in let e2 = k.room x x_in in let e3 = k.room_placed w w_in w_placed in omega arith)
        | inr n ↦ (let e1 = l_same v n in let e2 = k.room v lt in omega arith)
      ];
      room_placed = λ v lt q. (let e1 = same_placed v q in let e2 = k.room_placed v lt q in omega arith);
    }

-- an item that isn't placed changes its stage, and the others keep theirs
placed_stays : (s s' : ℕ → Stage) (x : ℕ) → (s x ≡ Placed → ⊥) → ((v : ℕ) → (v ≡ x → ⊥) → s' v ≡ s v) → (w : ℕ) → s w ≡ Placed → s' w ≡ Placed
placed_stays s s' x other same w p = elim (cases_eq w x) [ inl e ↦ absurd (other (subst (λ y. s y ≡ Placed) e p)) | inr n ↦ same w n ∙ p ]

pub Kept-opened : (deps : List (Vec ℕ Global)) (st : List Stage) (l r : ℕ → ℕ) (x : ℕ) → Kept deps (λ v. get_or st v Untouched) l r (sum_by is_left st) → x < length st → get_or st x Untouched ≡ Untouched → Kept deps (λ v. get_or (set st x Open) v Untouched) l r (sum_by is_left (set st x Open))
Kept-opened deps st l r x k x_in was =
    let same : (v : ℕ) → (v ≡ x → ⊥) → get_or (set st x Open) v Untouched ≡ get_or st v Untouched = λ v n. get_or-set_other st x v Open Untouched n in
    let here : get_or (set st x Open) x Untouched ≡ Open = get_or-set_same st x Open Untouched x_in in
    let counts = sum_by-set is_left st x Open Untouched x_in in
    let count : is_left (get_or st x Untouched) ≡ 1 = ap is_left was in
    Kept-change deps (λ v. get_or st v Untouched) (λ v. get_or (set st x Open) v Untouched) l r (sum_by is_left st) (sum_by is_left (set st x Open)) k (omega arith)
    (placed_stays (λ v. get_or st v Untouched) (λ v. get_or (set st x Open) v Untouched) x (λ p. cc) same)
    (λ w p. elim (cases_eq w x) [ inl e ↦ (let q : get_or (set st x Open) w Untouched ≡ get_or (set st x Open) x Untouched = ap (λ y. get_or (set st x Open) y Untouched) e in cc) | inr n ↦ inl (sym (same w n) ∙ p) ])

pub Kept-closed : (deps : List (Vec ℕ Global)) (st : List Stage) (l r : ℕ → ℕ) (x : ℕ) → Kept deps (λ v. get_or st v Untouched) l r (sum_by is_left st) → x < length st → get_or st x Untouched ≡ Open → r x ≡ 0 → Kept deps (λ v. get_or (set st x Placed) v Untouched) l r (sum_by is_left (set st x Placed))
Kept-closed deps st l r x k x_in was none =
    let same : (v : ℕ) → (v ≡ x → ⊥) → get_or (set st x Placed) v Untouched ≡ get_or st v Untouched = λ v n. get_or-set_other st x v Placed Untouched n in
    let counts = sum_by-set is_left st x Placed Untouched x_in in
    let count : is_left (get_or st x Untouched) ≡ 1 = ap is_left was in
    Kept-change deps (λ v. get_or st v Untouched) (λ v. get_or (set st x Placed) v Untouched) l r (sum_by is_left st) (sum_by is_left (set st x Placed)) k (omega arith)
    (placed_stays (λ v. get_or st v Untouched) (λ v. get_or (set st x Placed) v Untouched) x (λ p. cc) same)
    (λ w p. elim (cases_eq w x) [ inl e ↦ inr (ap r e ∙ none, omega arith) | inr n ↦ inl (sym (same w n) ∙ p) ])

-- a touched item stays touched where a stage is set to another than untouched
pub touched_set : (st : List Stage) (x : ℕ) (new : Stage) → x < length st → (new ≡ Untouched → ⊥) → (v : ℕ) → (get_or st v Untouched ≡ Untouched → ⊥) → get_or (set st x new) v Untouched ≡ Untouched → ⊥
touched_set st x new x_in ne v h e = elim (cases_eq v x) [
  | inl q ↦ ne (sym (get_or-set_same st x new Untouched x_in) ∙ sym (ap (λ y. get_or (set st x new) y Untouched) q) ∙ e)
  | inr n ↦ h (sym (get_or-set_other st x v new Untouched n) ∙ e)
]

-- the search begins: nothing was done with any item
left_low : (m : Stage) → is_left m ≤ 1
left_low Untouched = omega arith
left_low Open = omega arith
left_low Placed = omega arith

pub Kept-start : (deps : List (Vec ℕ Global)) (st : List Stage) (l r : ℕ → ℕ) → length st ≡ length deps → ((v : ℕ) → v < length deps → get_or st v Untouched ≡ Untouched) → ((v : ℕ) → v < length deps → l v ≡ 0) → ((v : ℕ) → v < length deps → r v ≡ length (list_of deps v)) → Kept deps (λ v. get_or st v Untouched) l r (sum_by is_left st)
Kept-start deps st l r size fresh low full =
    let few = sum_by-le is_left 1 st (λ k d lt. left_low (get_or st k d)) in
    record {
      within = λ v lt. (let e = full v lt in omega arith);
      placed = λ v i lt a b. (let e = full v lt in absurd (omega arith));
      below = λ v i lt a b. (let e = full v lt in absurd (omega arith));
      reached = λ v lt. inl (low v lt);
      done = λ v lt p. (let e = fresh v lt in cc);
      room = λ v lt. (let e = low v lt in omega arith);
      room_placed = λ v lt p. (let e = fresh v lt in cc);
    }
