-- The stack through a push and a pop.
use Rattle.std.proofs.Common.{Vec, ℕ, ◌+◌, ◌<◌, ◌≡◌, ◌⊎◌, ◌∙◌, List, [], ◌∷◌, ◌++◌, length, take, get_or, subst, sym, ap, refl, inl, inr, arith}
use Rattle.std.specs.declared.alloc.Global.{Global}
use Rattle.std.proofs.lemmas.Bool.{cases_eq, cases_lt}
use Rattle.std.proofs.lemmas.List.{length_push, get_or_push, get_or_append_left, get_or-take, length-take-le}
use Rattle.layer_plan.specs.Dependencies.{DependsOn}
use Rattle.layer_plan.specs.Search.{IsTrail, IsLast, LeadsOn}
use Rattle.layer_plan.specs.declared.search.Stage.{Stage}
use Rattle.layer_plan.specs.declared.search.Stage.TheVariants.{Untouched, Open, Placed}

abbrev IsOld : List ℕ → List ℕ → ℕ → Type 0
IsOld st st' i = (i < length st) × (get_or st' i 0 ≡ get_or st i 0)

at_push : (st : List ℕ) (x i : ℕ) → i < length (st ++ x ∷ []) → IsOld st (st ++ x ∷ []) i ⊎ ((i ≡ length st) × (get_or (st ++ x ∷ []) i 0 ≡ x))
at_push st x i lt = elim (cases_lt i (length st)) [ inl h ↦ inl (h, get_or_append_left st (x ∷ []) 0 i h) | inr h ↦ (let e : i ≡ length st = omega (arith, length_push st x) in inr (e, get_or_push st x 0 i (sym e))) ]

pub Trail-push : (deps : List (Vec ℕ Global)) (s s' : ℕ → Stage) (st : List ℕ) (x : ℕ) → IsTrail deps s st → x < length deps → s x ≡ Untouched → s' x ≡ Open → ((v : ℕ) → (v ≡ x → ⊥) → s' v ≡ s v) → LeadsOn deps st x → IsTrail deps s' (st ++ x ∷ [])
Trail-push deps s s' st x t x_in was is same leads =
    let untouched : (i : ℕ) → i < length st → get_or st i 0 ≡ x → ⊥ = λ i h e. (let a = t.open_each i h in let b : s (get_or st i 0) ≡ s x = ap s e in cc) in
    record {
      items = λ i lt. elim (at_push st x i lt) [ inl o ↦ subst (λ y. y < length deps) (sym o.1) (t.items i o.0) | inr o ↦ subst (λ y. y < length deps) (sym o.1) x_in ];
      open_each = λ i lt. elim (at_push st x i lt) [ inl o ↦ subst (λ y. s' y ≡ Open) (sym o.1) (same _ (untouched i o.0) ∙ t.open_each i o.0) | inr o ↦ subst (λ y. s' y ≡ Open) (sym o.1) is ];
      distinct = λ i j lt lj e. elim (at_push st x j lj) [ inl o ↦ (let ij : i < length st = (let h = o.0 in omega arith) in t.distinct i j lt o.0 (sym (get_or_append_left st (x ∷ []) 0 i ij) ∙ e ∙ o.1)) | inr o ↦ (let ij : i < length st = (let h = o.0 in omega arith) in untouched i ij (sym (get_or_append_left st (x ∷ []) 0 i ij) ∙ e ∙ o.1)) ];
      all = λ v lt p. elim (cases_eq v x) [ inl e ↦ (length st, omega (arith, length_push st x), get_or_push st x 0 (length st) refl ∙ sym e) | inr n ↦ (let w = t.all v lt (sym (same v n) ∙ p) in let wl = w.1 in (w.0, omega (arith, length_push st x), get_or_append_left st (x ∷ []) 0 w.0 w.1 ∙ w.2)) ];
      chain = λ i lt. elim (at_push st x (i + 1) lt) [ inl o ↦ (let ij : i < length st = (let h = o.0 in omega arith) in subst (λ y. DependsOn deps y (get_or (st ++ x ∷ []) (i + 1) 0)) (sym (get_or_append_left st (x ∷ []) 0 i ij)) (subst (λ y. DependsOn deps (get_or st i 0) y) (sym o.1) (t.chain i o.0))) | inr o ↦ (let ij : i < length st = (let h = o.0 in omega arith) in subst (λ y. DependsOn deps y (get_or (st ++ x ∷ []) (i + 1) 0)) (sym (get_or_append_left st (x ∷ []) 0 i ij)) (subst (λ y. DependsOn deps (get_or st i 0) y) (sym o.1) (leads i o.0))) ];
    }

pub Trail-pop : (deps : List (Vec ℕ Global)) (s s' : ℕ → Stage) (st : List ℕ) (i x : ℕ) → IsTrail deps s st → i + 1 ≡ length st → get_or st i 0 ≡ x → s' x ≡ Placed → ((v : ℕ) → (v ≡ x → ⊥) → s' v ≡ s v) → IsTrail deps s' (take i st)
Trail-pop deps s s' st i x t at is_x is same =
    let size : length (take i st) ≡ i = length-take-le i st (omega arith) in
    let read : (j : ℕ) → j < length (take i st) → get_or (take i st) j 0 ≡ get_or st j 0 = λ j h. get_or-take i st j 0 (omega arith) in
    let other : (j : ℕ) → j < length (take i st) → get_or st j 0 ≡ x → ⊥ = λ j h e. t.distinct j i (omega arith) (omega arith) (e ∙ sym is_x) in
    record {
      items = λ j h. subst (λ y. y < length deps) (sym (read j h)) (t.items j (omega arith));
      open_each = λ j h. subst (λ y. s' y ≡ Open) (sym (read j h)) (same _ (other j h) ∙ t.open_each j (omega arith));
      distinct = λ j m lt h e. (let hj : j < length (take i st) = omega arith in t.distinct j m lt (omega arith) (sym (read j hj) ∙ e ∙ read m h));
      all = λ v lt p. elim (cases_eq v x) [ inl e ↦ (let q : s' v ≡ s' x = ap s' e in cc) | inr n ↦ (let w = t.all v lt (sym (same v n) ∙ p) in let wl = w.1 in let ne : w.0 ≡ i → ⊥ = λ e. n (sym w.2 ∙ ap (λ k. get_or st k 0) e ∙ is_x) in let in' : w.0 < length (take i st) = omega arith in (w.0, in', read w.0 in' ∙ w.2)) ];
      chain = λ j h. (let hj : j < length (take i st) = omega arith in subst (λ y. DependsOn deps y (get_or (take i st) (j + 1) 0)) (sym (read j hj)) (subst (λ y. DependsOn deps (get_or st j 0) y) (sym (read (j + 1) h)) (t.chain j (omega arith))));
    }

pub leads_last : (deps : List (Vec ℕ Global)) (st : List ℕ) (item next : ℕ) → IsLast st item → DependsOn deps item next → LeadsOn deps st next
leads_last deps st item next last dep i e = let last_at = last.1 in let q : i ≡ last.0 = omega arith in subst (λ y. DependsOn deps y next) (sym (ap (λ k. get_or st k 0) q ∙ last.2)) dep

-- no item is open yet
pub Trail-start : (deps : List (Vec ℕ Global)) (s : ℕ → Stage) → ((v : ℕ) → v < length deps → s v ≡ Untouched) → IsTrail deps s []
Trail-start deps s fresh = record {
  items = λ i lt. absurd (omega arith);
  open_each = λ i lt. absurd (omega arith);
  distinct = λ i j lt h. absurd (omega arith);
  all = λ v lt o. (let e = fresh v lt in cc);
  chain = λ i lt. absurd (omega arith);
}
