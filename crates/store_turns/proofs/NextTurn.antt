-- One turn keeps what holds between turns.
use Rattle.std.proofs.Common.{◌≡◌, ◌≢◌, ℕ, suc, ◌<◌, Bool, true, false, cond, List, [], ◌∷◌, map, Some, None, IsSome, refl, sym, ap, ◌∙◌, subst, arith, ◌⊎◌, inl, inr}
use Rattle.std.proofs.lemmas.Bool.Decides.{eqb_tells, leb_tells}
use Rattle.cbl_base.specs.declared.input.Input.{Input}
use Rattle.cbl_base.specs.declared.ids.NodeId.{NodeId}
use Rattle.cbl_base.specs.declared.input.Change.{Change}
use Rattle.store_turns.specs.declared.outcome.Outcome.{Outcome}
use Rattle.store_turns.specs.declared.outcome.Outcome.TheVariants.{Value}
use Rattle.store_turns.specs.Meaning.{Graph, Each, computed, values_of}
use Rattle.store_turns.specs.Telling.{positions, to_come, Fits, NoneAtAny}
use Rattle.store_turns.specs.Waits.{Wait}
use Rattle.store_turns.specs.Turns.{IsShape, InTurn, Reached}

map_suc_none : (ps : List ℕ) → map suc ps ≡ [] → ps ≡ []
map_suc_none [] e = refl
map_suc_none (p ∷ ps) e = absurd (cc)

-- what holds of each in the list holds of an id that stands there
pub at_position : (P : ℕ → Type 0) (id : ℕ) (is : List ℕ) → Each P is → positions id is ≢ [] → P id
at_position P id [] each h = absurd (h refl)
at_position P id (i ∷ is) each h =
    elim (eqb_tells i id) [
      | inl t ↦ subst P t.1 each.0
      | inr f ↦ at_position P id is each.1 (λ e. h (rw f.0 (ap (map suc) e)))
    ]

pub not_in_own : (P : ℕ → Type 0) (id : ℕ) (is : List ℕ) → Each P is → (P id → ⊥) → positions id is ≡ []
not_in_own P id [] each never = refl
not_in_own P id (i ∷ is) each never =
    elim (eqb_tells i id) [
      | inl t ↦ absurd (never (subst P t.1 each.0))
      | inr f ↦ rw f.0 (ap (map suc) (not_in_own P id is each.1 never))
    ]

pub none_or_some : (w : Wait) → (w ≡ None) ⊎ IsSome w
none_or_some None = inl refl
none_or_some (Some x) = inr refl

pub not_some : (w : Wait) → w ≡ None → IsSome w → ⊥
not_some None e h = cc
not_some (Some x) e h = cc

pub nonempty : (id : ℕ) (is : List ℕ) → positions id is ≢ [] → is ≢ []
nonempty id is h e = h (subst (λ l. positions id l ≡ []) (sym e) refl)

pub not_free : (g : Graph) (layer : ℕ → ℕ) (uses : ℕ → List (NodeId × ℕ)) → IsShape g layer uses → (j : ℕ) (k : Bool) → g.inputs j ≢ [] → g.is_free j ≡ k → k ≡ false
not_free g layer uses shape j true ne e = absurd (ne (shape.bound j e))
not_free g layer uses shape j false ne e = refl

module _ (g : Graph) (layer : ℕ → ℕ) (uses : ℕ → List (NodeId × ℕ)) (shape : IsShape g layer uses) (before : ℕ → Input) (Later After Fitted Kept : ℕ → Type 0)
    (id : ℕ) (o p : ℕ → Outcome) (held kept : ℕ → List Input) (w u v : ℕ → ℕ → Wait)
    (state : InTurn g layer before Later Fitted o held w)
    (lt : id < g.size) (now : Later id)
    (other_o : (j : ℕ) → j ≢ id → p j ≡ o j) (other_held : (j : ℕ) → j ≢ id → kept j ≡ held j)
    -- what waited for the id is taken
    (taken : u (layer id) id ≡ None) (rest : (l i : ℕ) → (l ≡ layer id → i ≢ id) → u l i ≡ w l i)
    (later_waiting : (l i : ℕ) → IsSome (u l i) → After i) (later_users : (j : ℕ) → positions id (g.inputs j) ≢ [] → After j)
    (still : (j : ℕ) → After j → Later j × (j ≢ id)) (narrows : (j : ℕ) → Kept j → Fitted j)
    (reached : Reached g layer id o p held u v)
    -- and the id came to what is computed
    (bound : g.is_free id ≡ false → p id ≡ computed g o id)
    (fits : (x : Input) → Kept id → g.is_free id ≡ false → p id ≡ Value x → values_of (map o (g.inputs id)) ≡ Some (kept id)) where
  own : positions id (g.inputs id) ≡ []
  own = not_in_own (λ i. (i < g.size) × (layer i < layer id)) id (g.inputs id) (shape.layers id lt) (λ h. absurd (omega (arith, h.1)))

  same_inputs : (is : List ℕ) → positions id is ≡ [] → map p is ≡ map o is
  same_inputs [] e = refl
  same_inputs (i ∷ is) e =
      elim (eqb_tells i id) [
        | inl t ↦ absurd (cons_not (subst (λ b. cond b (0 ∷ map suc (positions id is)) (map suc (positions id is)) ≡ []) t.0 e))
        | inr f ↦ rw (other_o i f.1) (ap (λ l. o i ∷ l) (same_inputs is (map_suc_none _ (subst (λ b. cond b (0 ∷ map suc (positions id is)) (map suc (positions id is)) ≡ []) f.0 e))))
      ]
    where
      cons_not : {A : Type 0} {x : A} {xs : List A} → (x ∷ xs) ≡ [] → ⊥
      cons_not e = cc

  still_taken : v (layer id) id ≡ None
  still_taken = elim (none_or_some (v (layer id) id)) [ inl e ↦ e | inr h ↦ elim (reached.grows id h) [ inl b ↦ absurd (not_some _ taken b) | inr b ↦ absurd (b own) ] ]

  keyed : (l i : ℕ) → IsSome (v l i) → (l ≡ layer i) × (i < g.size) × (g.inputs i ≢ []) × After i
  keyed l i h = elim (eqb_tells l (layer i)) [ inl t ↦ here (subst (λ k. IsSome (v k i)) t.1 h) t.1 | inr f ↦ from_u (subst (λ (x : Wait). IsSome x) (reached.elsewhere l i f.1) h) ]
    where
      from_u : IsSome (u l i) → (l ≡ layer i) × (i < g.size) × (g.inputs i ≢ []) × After i
      from_u b =
          let away : l ≡ layer id → i ≢ id = λ e f. not_some _ taken (subst (λ k. IsSome (u (layer id) k)) f (subst (λ k. IsSome (u k i)) e b)) in
          let old = state.keyed l i (subst (λ (x : Wait). IsSome x) (rest l i away) b) in
          (old.0, old.1, old.2, later_waiting l i b)

      inside : (k : ℕ) → positions id (g.inputs k) ≢ [] → k < g.size
      inside k b = elim (leb_tells g.size k) [ inl a ↦ absurd (nonempty id _ b (shape.outside k a.1)) | inr a ↦ a.1 ]

      here : IsSome (v (layer i) i) → l ≡ layer i → (l ≡ layer i) × (i < g.size) × (g.inputs i ≢ []) × After i
      here b e = elim (reached.grows i b) [ inl c ↦ from_u (subst (λ k. IsSome (u k i)) (sym e) c) | inr c ↦ (e, inside i c, nonempty id _ c, later_users i c) ]

  consistent : (j : ℕ) → j < g.size → g.is_free j ≡ false → v (layer j) j ≡ None → p j ≡ computed g p j
  consistent j l f n =
      let q = reached.quiet j n in
      elim (eqb_tells j id) [
        | inl t ↦ subst (λ k. p k ≡ computed g p k) (sym t.1) (bound (subst (λ k. g.is_free k ≡ false) t.1 f) ∙ sym (subst (λ k. computed g p k ≡ computed g o k) t.1 q.1))
        | inr d ↦ other_o j d.1 ∙ state.consistent j l f (sym (rest (layer j) j (λ _. d.1)) ∙ q.0) ∙ sym q.1
      ]

  fits_all : (j : ℕ) (x : Input) → Kept j → j < g.size → g.is_free j ≡ false → p j ≡ Value x → Fits (kept j) (map p (g.inputs j)) (to_come (v (layer j) j))
  fits_all j x k l f is =
      elim (eqb_tells j id) [
        | inl t ↦ subst (λ k. Fits (kept k) (map p (g.inputs k)) (to_come (v (layer k) k))) (sym t.1)
            (rw (still_taken, same_inputs (g.inputs id) own) (tt, fits x (subst Kept t.1 k) (subst (λ k. g.is_free k ≡ false) t.1 f) (subst (λ k. p k ≡ Value x) t.1 is)))
        | inr d ↦ subst (λ h. Fits h (map p (g.inputs j)) (to_come (v (layer j) j))) (sym (other_held j d.1))
            (reached.fit j (subst (λ k. Fits (held j) (map o (g.inputs j)) (to_come k)) (sym (rest (layer j) j (λ _. d.1))) (state.fits j x (narrows j k) l f (sym (other_o j d.1) ∙ is)))
            (λ ds e. state.early id j lt now ds (ap to_come (sym (rest (layer j) j (λ _. d.1))) ∙ e)))
      ]

  early_u : (i j : ℕ) → i < g.size → Later i → (ds : List Change) → to_come (u (layer j) j) ≡ Some ds → NoneAtAny ds (positions i (g.inputs j))
  early_u i j l a ds e =
      elim (eqb_tells j id) [
        | inl t ↦ subst (λ (es : List Change). NoneAtAny es (positions i (g.inputs j))) (none_to_come ds (subst (λ k. to_come (u (layer k) k) ≡ Some ds) t.1 e)) (none_any (positions i (g.inputs j)))
        | inr d ↦ state.early i j l a ds (ap to_come (sym (rest (layer j) j (λ _. d.1))) ∙ e)
      ]
    where
      some_same : (xs ys : List Change) → Some xs ≡ Some ys → xs ≡ ys
      some_same xs ys e = cc

      none_to_come : (ds : List Change) → to_come (u (layer id) id) ≡ Some ds → [] ≡ ds
      none_to_come ds e = some_same [] ds (sym (ap to_come taken) ∙ e)

      none_any : (ps : List ℕ) → NoneAtAny [] ps
      none_any [] = tt
      none_any (q ∷ ps) = (tt, none_any ps)

  -- after the turn
  pub next_turn : InTurn g layer before After Kept p kept v
  next_turn = record {
    keyed = keyed;
    consistent = consistent;
    fits = fits_all;
    beyond = λ j l a. other_o j (still j a).1 ∙ state.beyond j l (still j a).0;
    early = λ i j l a. reached.early i j (still i a).1 (early_u i j l (still i a).0);
  }
