-- What a list of changes has at an id, where a table leads to the places.
use Rattle.std.proofs.Common.{◌≡◌, ◌≢◌, ◌⊎◌, inl, inr, ℕ, zero, suc, ◌≤◌, true, cond, List, [], ◌∷◌, ◌++◌, length, Option, Some, None, refl, sym, ap, ◌∙◌, subst}
use Rattle.std.specs.Prelude.{slice_get, slice_set}
use Rattle.std.specs.BTreeMap.{get, is_at}
use Rattle.std.specs.Ordering.{nat_cmp}
use Rattle.std.proofs.lemmas.Bool.{cond-true, cond-false}
use Rattle.std.proofs.lemmas.Bool.Decides.{eqb_tells}
use Rattle.std.proofs.lemmas.Option.{slice_get_past}
use Rattle.inc_store.specs.declared.changed.NodeChange.{NodeChange}
use Rattle.inc_store.proofs.MapEntries.{at_same, at_other}
use Rattle.trial.specs.ChangeLists.{map_of, ArePlaced, IsPlaceOf}

some_is : {A : Type 0} {x y : A} → Some x ≡ Some y → x ≡ y
some_is e = cc

none_some : {A : Type 0} {x : A} → None ≡ Some x → ⊥
none_some e = cc

-- ---- what is found in the list
head_at : (id : ℕ) (c : NodeChange) (cs : List NodeChange) → c.node.0 ≡ id → get nat_cmp (map_of (c ∷ cs)) id ≡ Some c
head_at id c cs e = cond-true (is_at (nat_cmp id) c.node.0) (Some c) (get nat_cmp (map_of cs) id) (subst (λ n. is_at (nat_cmp id) n ≡ true) (sym e) (at_same id))

head_other : (id : ℕ) (c : NodeChange) (cs : List NodeChange) → c.node.0 ≢ id → get nat_cmp (map_of (c ∷ cs)) id ≡ get nat_cmp (map_of cs) id
head_other id c cs ne = cond-false (is_at (nat_cmp id) c.node.0) (Some c) (get nat_cmp (map_of cs) id) (at_other id c.node.0 (λ e. ne (sym e)))

none_at : (id : ℕ) (cs : List NodeChange) → ((p : ℕ) → IsPlaceOf cs id p → ⊥) → get nat_cmp (map_of cs) id ≡ None
none_at id [] none = refl
none_at id (c ∷ cs) none = head_other id c cs (λ e. none zero (c, refl, e)) ∙ none_at id cs (λ p h. none (suc p) h)

found_at : (id : ℕ) (cs : List NodeChange) (c : NodeChange) (p : ℕ) → slice_get cs p ≡ Some c → c.node.0 ≡ id
    → ((q : ℕ) (d : NodeChange) → slice_get cs q ≡ Some d → d.node.0 ≡ id → d ≡ c) → get nat_cmp (map_of cs) id ≡ Some c
found_at id [] c p there at only = absurd (none_some there)
found_at id (x ∷ xs) c zero there at only = head_at id x xs (ap (λ (d : NodeChange). d.node.0) (some_is there) ∙ at) ∙ there
found_at id (x ∷ xs) c (suc p) there at only =
    elim (eqb_tells x.node.0 id) [
      | inl e ↦ head_at id x xs e.1 ∙ ap (λ (d : NodeChange). Some d) (only zero x refl e.1)
      | inr n ↦ head_other id x xs n.1 ∙ found_at id xs c p there at (λ q d h k. only (suc q) d h k)
    ]

-- ---- where the table leads
module _ (cs : List NodeChange) (places : List ℕ) (placed : ArePlaced cs places) (id : ℕ) where
  leads : (p : ℕ) (c : NodeChange) → slice_get cs p ≡ Some c → c.node.0 ≡ id → slice_get places id ≡ Some p
  leads p c there at = subst (λ n. slice_get places n ≡ Some p) at (placed p c there)

  pub placed_at : (p : ℕ) (c : NodeChange) → slice_get cs p ≡ Some c → c.node.0 ≡ id → get nat_cmp (map_of cs) id ≡ Some c
  placed_at p c there at = found_at id cs c p there at only
    where
      only : (q : ℕ) (d : NodeChange) → slice_get cs q ≡ Some d → d.node.0 ≡ id → d ≡ c
      only q d h k =
          let same : p ≡ q = some_is (sym (leads p c there at) ∙ leads q d h k) in
          some_is (sym h ∙ subst (λ r. slice_get cs r ≡ Some c) same there)

  absent : ((p : ℕ) → slice_get places id ≡ Some p → IsPlaceOf cs id p → ⊥) → get nat_cmp (map_of cs) id ≡ None
  absent nowhere = none_at id cs (λ p h. nowhere p (leads p h.0 h.1 h.2) h)

  pub past_table : length places ≤ id → get nat_cmp (map_of cs) id ≡ None
  past_table past = absent (λ p led h. none_some (sym (slice_get_past places id past) ∙ led))

  pub past_list : (p : ℕ) → slice_get places id ≡ Some p → length cs ≤ p → get nat_cmp (map_of cs) id ≡ None
  past_list p at past = absent (λ q led h. none_some (sym (slice_get_past cs p past) ∙ subst (λ r. slice_get cs r ≡ Some h.0) (some_is (sym led ∙ at)) h.1))

  pub other_there : (p : ℕ) (c : NodeChange) → slice_get places id ≡ Some p → slice_get cs p ≡ Some c → c.node.0 ≢ id → get nat_cmp (map_of cs) id ≡ None
  other_there p c at there ne = absent (λ q led h.
      let same : h.0 ≡ c = some_is (sym h.1 ∙ subst (λ r. slice_get cs r ≡ Some c) (some_is (sym at ∙ led)) there) in
      ne (sym (ap (λ (d : NodeChange). d.node.0) same) ∙ h.2))

-- ---- one written, and one more
pub set_here : {A : Type 0} (xs : List A) (i : ℕ) (x y : A) → slice_get xs i ≡ Some y → slice_get (slice_set xs i x) i ≡ Some x
set_here [] i x y h = absurd (none_some h)
set_here (a ∷ xs) zero x y h = refl
set_here (a ∷ xs) (suc i) x y h = set_here xs i x y h

pub set_other : {A : Type 0} (xs : List A) (i j : ℕ) (x : A) → j ≢ i → slice_get (slice_set xs i x) j ≡ slice_get xs j
set_other [] i j x ne = refl
set_other (a ∷ xs) zero zero x ne = absurd (ne refl)
set_other (a ∷ xs) zero (suc j) x ne = refl
set_other (a ∷ xs) (suc i) zero x ne = refl
set_other (a ∷ xs) (suc i) (suc j) x ne = set_other xs i j x (λ e. ne (ap suc e))

pub push_kept : {A : Type 0} (xs : List A) (x : A) (i : ℕ) (y : A) → slice_get xs i ≡ Some y → slice_get (xs ++ x ∷ []) i ≡ Some y
push_kept [] x i y h = absurd (none_some h)
push_kept (a ∷ xs) x zero y h = h
push_kept (a ∷ xs) x (suc i) y h = push_kept xs x i y h

push_there : {A : Type 0} (xs : List A) (x : A) → slice_get (xs ++ x ∷ []) (length xs) ≡ Some x
push_there [] x = refl
push_there (a ∷ xs) x = push_there xs x

push_one : {A : Type 0} (xs : List A) (x : A) (i : ℕ) (y : A) → slice_get (xs ++ x ∷ []) i ≡ Some y → (slice_get xs i ≡ Some y) ⊎ ((i ≡ length xs) × (y ≡ x))
push_one [] x zero y h = inr (refl, sym (some_is h))
push_one [] x (suc i) y h = absurd (none_some h)
push_one (a ∷ xs) x zero y h = inl h
push_one (a ∷ xs) x (suc i) y h = elim (push_one xs x i y h) [ inl k ↦ inl k | inr k ↦ inr (ap suc k.0, k.1) ]

set_apart : (id : ℕ) (cs : List NodeChange) (p : ℕ) (c d : NodeChange) → slice_get cs p ≡ Some c → c.node.0 ≢ id → d.node.0 ≢ id
    → get nat_cmp (map_of (slice_set cs p d)) id ≡ get nat_cmp (map_of cs) id
set_apart id [] p c d there ne me = absurd (none_some there)
set_apart id (x ∷ xs) zero c d there ne me =
    head_other id d xs me ∙ sym (head_other id x xs (λ e. ne (sym (ap (λ (y : NodeChange). y.node.0) (some_is there)) ∙ e)))
set_apart id (x ∷ xs) (suc p) c d there ne me =
    ap (λ (o : Option NodeChange). cond (is_at (nat_cmp id) x.node.0) (Some x) o) (set_apart id xs p c d there ne me)

push_apart : (id : ℕ) (cs : List NodeChange) (d : NodeChange) → d.node.0 ≢ id → get nat_cmp (map_of (cs ++ d ∷ [])) id ≡ get nat_cmp (map_of cs) id
push_apart id [] d ne = head_other id d [] ne
push_apart id (x ∷ xs) d ne = ap (λ (o : Option NodeChange). cond (is_at (nat_cmp id) x.node.0) (Some x) o) (push_apart id xs d ne)

-- ---- a change for the one that its node had
module _ (cs : List NodeChange) (places : List ℕ) (placed : ArePlaced cs places) (d : NodeChange) (p : ℕ) (h : IsPlaceOf cs d.node.0 p) where
  leads_there : slice_get places d.node.0 ≡ Some p
  leads_there = leads cs places placed d.node.0 p h.0 h.1 h.2

  pub set_placed : ArePlaced (slice_set cs p d) places
  set_placed q e there =
      elim (eqb_tells q p) [
        | inl same ↦ let it : e ≡ d = some_is (sym there ∙ subst (λ r. slice_get (slice_set cs p d) r ≡ Some d) (sym same.1) (set_here cs p d h.0 h.1)) in
            subst (λ r. slice_get places e.node.0 ≡ Some r) (sym same.1) (subst (λ (y : NodeChange). slice_get places y.node.0 ≡ Some p) (sym it) leads_there)
        | inr apart ↦ placed q e (sym (set_other cs p q d apart.1) ∙ there)
      ]

  pub set_found : get nat_cmp (map_of (slice_set cs p d)) d.node.0 ≡ Some d
  set_found = placed_at (slice_set cs p d) places set_placed d.node.0 p d (set_here cs p d h.0 h.1) refl

  pub set_others : (j : ℕ) → j ≢ d.node.0 → get nat_cmp (map_of (slice_set cs p d)) j ≡ get nat_cmp (map_of cs) j
  set_others j ne = set_apart j cs p h.0 d h.1 (λ e. ne (sym e ∙ h.2)) (λ e. ne (sym e))

-- ---- a change of a node that had none
module _ (cs : List NodeChange) (places places' : List ℕ) (placed : ArePlaced cs places) (d : NodeChange) (none : get nat_cmp (map_of cs) d.node.0 ≡ None)
    (kept : (j p : ℕ) → j ≢ d.node.0 → slice_get places j ≡ Some p → slice_get places' j ≡ Some p) where
  pub still_placed : ArePlaced cs places'
  still_placed p c there = kept c.node.0 p (λ e. none_some (sym none ∙ placed_at cs places placed d.node.0 p c there e)) (placed p c there)

  module _ (led : slice_get places' d.node.0 ≡ Some (length cs)) where
    pub push_placed : ArePlaced (cs ++ d ∷ []) places'
    push_placed p c there =
        elim (push_one cs d p c there) [
          | inl old ↦ still_placed p c old
          | inr new ↦ subst (λ r. slice_get places' c.node.0 ≡ Some r) (sym new.0) (subst (λ (y : NodeChange). slice_get places' y.node.0 ≡ Some (length cs)) (sym new.1) led)
        ]

    pub push_found : get nat_cmp (map_of (cs ++ d ∷ [])) d.node.0 ≡ Some d
    push_found = placed_at (cs ++ d ∷ []) places' push_placed d.node.0 (length cs) d (push_there cs d) refl

    pub push_others : (j : ℕ) → j ≢ d.node.0 → get nat_cmp (map_of (cs ++ d ∷ [])) j ≡ get nat_cmp (map_of cs) j
    push_others j ne = push_apart j cs d (λ e. ne (sym e))
