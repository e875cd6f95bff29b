-- What is noted of failing nodes, when one more id comes to its outcome.
use Rattle.std.proofs.Common.{◌≡◌, ◌≢◌, ◌⊎◌, inl, inr, ℕ, suc, ◌≤◌, Bool, true, false, cond, nat_le, List, [], ◌∷◌, ◌++◌, map, Option, Some, None, refl, sym, ap, ◌∙◌, subst, arith}
use Rattle.std.specs.BTreeMap.{BTreeMap, get}
use Rattle.std.specs.Ordering.{nat_cmp}
use Rattle.std.proofs.lemmas.Bool.Decides.{eqb_tells, leb_tells}
use Rattle.cbl_base.specs.declared.ids.NodeId.{NodeId}
use Rattle.cbl_base.specs.declared.faults.RunFault.{RunFault}
use Rattle.store_turns.specs.declared.frame.Frame.{Frame}
use Rattle.store_turns.specs.Meaning.{inputs_in}
use Rattle.store_turns.specs.Telling.{positions, places_in}
use Rattle.store_turns.specs.Cones.{Among}
use Rattle.trial.specs.Overlays.{root_by, root_in, lesser, noted}
use Rattle.trial.specs.Course.{AreRoots}

-- ---- ids among others
map_none : (ps : List ℕ) → map suc ps ≡ [] → ps ≡ []
map_none [] e = refl
map_none (p ∷ ps) e = absurd (cc)

pub positions_among : (id : ℕ) (is : List ℕ) → Among id is → positions id is ≢ []
positions_among id [] m e = m
positions_among id (i ∷ is) m e =
    elim (eqb_tells i id) [
      | inl t ↦ cons_none (subst (λ b. cond b (0 ∷ map suc (positions id is)) (map suc (positions id is)) ≡ []) t.0 e)
      | inr f ↦ elim m [
        | inl same ↦ f.1 same
        | inr rest ↦ positions_among id is rest (map_none _ (subst (λ b. cond b (0 ∷ map suc (positions id is)) (map suc (positions id is)) ≡ []) f.0 e))
      ]
    ]
  where
    cons_none : {A : Type 0} {x : A} {xs : List A} → (x ∷ xs) ≡ [] → ⊥
    cons_none e = cc

pub among_positions : (id : ℕ) (is : List ℕ) → positions id is ≢ [] → Among id is
among_positions id [] h = absurd (h refl)
among_positions id (i ∷ is) h =
    elim (eqb_tells i id) [
      | inl t ↦ inl t.1
      | inr f ↦ inr (among_positions id is (λ e. h (rw f.0 (ap (map suc) e))))
    ]

-- ---- the lesser of two
pub lesser_either : (a b : Option (ℕ × RunFault)) (r : ℕ × RunFault) → lesser a b ≡ Some r → (a ≡ Some r) ⊎ (b ≡ Some r)
lesser_either None b r e = inr e
lesser_either (Some a) None r e = inl e
lesser_either (Some a) (Some b) r e = by (nat_le a.0 b.0) e
  where
    by : (t : Bool) → Some (cond t a b) ≡ Some r → (Some a ≡ Some r) ⊎ (Some b ≡ Some r)
    by true e = inl e
    by false e = inr e

abbrev AtMost : Option (ℕ × RunFault) → ℕ → Type 0
AtMost o n = (s : ℕ × RunFault) × (o ≡ Some s) × (s.0 ≤ n)

pub lesser_left : (a : ℕ × RunFault) (b : Option (ℕ × RunFault)) → AtMost (lesser (Some a) b) a.0
lesser_left a None = (a, refl, omega arith)
lesser_left a (Some b) = elim (leb_tells a.0 b.0) [
  | inl t ↦ (a, ap (λ c. Some (cond c a b)) t.0, omega arith)
  | inr f ↦ (b, ap (λ c. Some (cond c a b)) f.0, let h = f.1 in omega (arith, h))
]

pub lesser_right : (a : Option (ℕ × RunFault)) (b : ℕ × RunFault) → AtMost (lesser a (Some b)) b.0
lesser_right None b = (b, refl, omega arith)
lesser_right (Some a) b = elim (leb_tells a.0 b.0) [
  | inl t ↦ (a, ap (λ c. Some (cond c a b)) t.0, t.1)
  | inr f ↦ (b, ap (λ c. Some (cond c a b)) f.0, omega arith)
]

pub lesser_twice : (a r : Option (ℕ × RunFault)) → lesser a (lesser a r) ≡ lesser a r
lesser_twice None r = refl
lesser_twice (Some a) None = ap (λ z. Some z) (same (nat_le a.0 a.0))
  where
    same : (t : Bool) → cond t a a ≡ a
    same true = refl
    same false = refl
lesser_twice (Some a) (Some b) = by (nat_le a.0 b.0) refl
  where
    same : (t : Bool) → cond t a a ≡ a
    same true = refl
    same false = refl

    by : (t : Bool) → nat_le a.0 b.0 ≡ t → lesser (Some a) (Some (cond t a b)) ≡ Some (cond t a b)
    by true e = ap (λ z. Some z) (same (nat_le a.0 a.0))
    by false e = ap (λ c. Some (cond c a b)) e

pub noted_nothing : (ps : List ℕ) (r : Option (ℕ × RunFault)) → noted ps None r ≡ r
noted_nothing [] r = refl
noted_nothing (p ∷ ps) r = refl

noted_less : (ps : List ℕ) (a : Option (ℕ × RunFault)) (b : ℕ × RunFault) → AtMost (noted ps a (Some b)) b.0
noted_less [] a b = (b, refl, omega arith)
noted_less (p ∷ ps) a b = lesser_right a b

noted_some : (ps : List ℕ) (a : ℕ × RunFault) (b : Option (ℕ × RunFault)) → ps ≢ [] → AtMost (noted ps (Some a) b) a.0
noted_some [] a b h = absurd (h refl)
noted_some (p ∷ ps) a b h = lesser_left a b

at_most_of : (o p : Option (ℕ × RunFault)) (m n : ℕ) → o ≡ p → m ≤ n → AtMost p m → AtMost o n
at_most_of o p m n e le h = (h.0, e ∙ h.1, let a = h.2 in omega (arith, a, le))

-- ---- one more use is noted
places-append : (j : ℕ) (us vs : List (NodeId × ℕ)) → places_in j (us ++ vs) ≡ places_in j us ++ places_in j vs
places-append j [] vs = refl
places-append j (u ∷ us) vs =
    elim (eqb_tells u.0.0 j) [
      | inl t ↦ rw t.0 (ap (λ l. u.1 ∷ l) (places-append j us vs))
      | inr f ↦ rw f.0 (places-append j us vs)
    ]

noted-append : (ps qs : List ℕ) (root r : Option (ℕ × RunFault)) → noted (ps ++ qs) root r ≡ noted qs root (noted ps root r)
noted-append [] qs root r = refl
noted-append (p ∷ ps) [] root r = refl
noted-append (p ∷ ps) (q ∷ qs) root r = sym (lesser_twice root r)

pub noted_more : (us : List (NodeId × ℕ)) (u : NodeId × ℕ) (root : Option (ℕ × RunFault)) (old now new : ℕ → Option (ℕ × RunFault))
    → new u.0.0 ≡ lesser root (now u.0.0) → ((j : ℕ) → j ≢ u.0.0 → new j ≡ now j)
    → ((j : ℕ) → now j ≡ noted (places_in j us) root (old j))
    → (j : ℕ) → new j ≡ noted (places_in j (us ++ u ∷ [])) root (old j)
noted_more us u root old now new here other h j =
    let parts : noted (places_in j (us ++ u ∷ [])) root (old j) ≡ noted (places_in j (u ∷ [])) root (now j) =
    ap (λ ps. noted ps root (old j)) (places-append j us (u ∷ [])) ∙ noted-append (places_in j us) (places_in j (u ∷ [])) root (old j) ∙ ap (noted (places_in j (u ∷ [])) root) (sym (h j)) in
    elim (eqb_tells u.0.0 j) [
      | inl t ↦ subst (λ k. new k ≡ lesser root (now k)) t.1 here ∙ sym (parts ∙ (rw t.0 refl))
      | inr g ↦ other j (λ e. g.1 (sym e)) ∙ sym (parts ∙ (rw g.0 refl))
    ]

module _ (frame : Frame) (lost lost' : BTreeMap ℕ (Option RunFault)) (roots roots' : BTreeMap ℕ (ℕ × RunFault)) (are : AreRoots frame lost roots)
    (id : ℕ) (uses : List (NodeId × ℕ)) (root : Option (ℕ × RunFault))
    (lost_other : (j : ℕ) → j ≢ id → get nat_cmp lost' j ≡ get nat_cmp lost j) (unlost : get nat_cmp lost id ≡ None)
    (root_here : root ≡ root_by id (get nat_cmp lost' id) (get nat_cmp roots id))
    (noted_all : (j : ℕ) → get nat_cmp roots' j ≡ noted (places_in j uses) root (get nat_cmp roots j))
    (places : (j : ℕ) → places_in j uses ≡ positions id (inputs_in frame j))
    (own : positions id (inputs_in frame id) ≡ [])
    (users_unlost : (j : ℕ) → positions id (inputs_in frame j) ≢ [] → get nat_cmp lost j ≡ None) where
  at : (j : ℕ) → get nat_cmp roots' j ≡ noted (positions id (inputs_in frame j)) root (get nat_cmp roots j)
  at j = noted_all j ∙ ap (λ ps. noted ps root (get nat_cmp roots j)) (places j)

  root_now : root_in lost' roots' id ≡ root
  root_now = ap (root_by id (get nat_cmp lost' id)) (at id ∙ ap (λ ps. noted ps root (get nat_cmp roots id)) own) ∙ sym root_here

  root_other : (j : ℕ) → j ≢ id → root_in lost' roots' j ≡ root_in lost roots j
  root_other j ne = ap (λ l. root_by j l (get nat_cmp roots' j)) (lost_other j ne) ∙ by (positions id (inputs_in frame j)) refl
    where
      by : (ps : List ℕ) → positions id (inputs_in frame j) ≡ ps → root_by j (get nat_cmp lost j) (get nat_cmp roots' j) ≡ root_by j (get nat_cmp lost j) (get nat_cmp roots j)
      by [] e = ap (root_by j (get nat_cmp lost j)) (at j ∙ ap (λ qs. noted qs root (get nat_cmp roots j)) e)
      by (p ∷ ps) e =
          let none = users_unlost j (λ z. cons_none (sym e ∙ z)) in
          ap (λ l. root_by j l (get nat_cmp roots' j)) none ∙ sym (ap (λ l. root_by j l (get nat_cmp roots j)) none)
        where
          cons_none : {A : Type 0} {x : A} {xs : List A} → (x ∷ xs) ≡ [] → ⊥
          cons_none e = cc

  was_none : (r : ℕ × RunFault) → root_in lost roots id ≡ Some r → ⊥
  was_none r e = none_some (sym (ap (λ l. root_by id l (get nat_cmp roots id)) unlost) ∙ e)
    where
      none_some : {r : ℕ × RunFault} → None ≡ Some r → ⊥
      none_some e = cc

  from_old : (j : ℕ) (r : ℕ × RunFault) → get nat_cmp roots j ≡ Some r → (i : ℕ) × Among i (inputs_in frame j) × (root_in lost' roots' i ≡ Some r)
  from_old j r e =
      let a = are.among j r e in
      (a.0, a.1, root_other a.0 (λ z. was_none r (subst (λ k. root_in lost roots k ≡ Some r) z a.2)) ∙ a.2)

  pub still_roots : AreRoots frame lost' roots'
  still_roots = record {
    among = λ j r e. by j r (positions id (inputs_in frame j)) refl (sym (at j) ∙ e);
    least = λ j i r m e. elim (eqb_tells i id) [
      | inl t ↦
          let is = sym (subst (λ k. root_in lost' roots' k ≡ root) (sym t.1) root_now) ∙ e in
          at_most_of (get nat_cmp roots' j) _ r.0 r.0 (at j ∙ ap (λ (q : Option (ℕ × RunFault)). noted (positions id (inputs_in frame j)) q (get nat_cmp roots j)) is) (omega arith)
          (noted_some (positions id (inputs_in frame j)) r (get nat_cmp roots j) (positions_among id (inputs_in frame j) (subst (λ k. Among k (inputs_in frame j)) t.1 m)))
      | inr f ↦
          let old = are.least j i r m (sym (root_other i f.1) ∙ e) in
          at_most_of (get nat_cmp roots' j) _ old.0.0 r.0 (at j ∙ ap (λ (q : Option (ℕ × RunFault)). noted (positions id (inputs_in frame j)) root q) old.1) old.2
          (noted_less (positions id (inputs_in frame j)) root old.0)
    ];
  }
    where
      by : (j : ℕ) (r : ℕ × RunFault) (ps : List ℕ) → positions id (inputs_in frame j) ≡ ps → noted (positions id (inputs_in frame j)) root (get nat_cmp roots j) ≡ Some r
          → (i : ℕ) × Among i (inputs_in frame j) × (root_in lost' roots' i ≡ Some r)
      by j r [] p e = from_old j r (sym (ap (λ qs. noted qs root (get nat_cmp roots j)) p) ∙ e)
      by j r (q ∷ ps) p e = elim (lesser_either root (get nat_cmp roots j) r (sym (ap (λ qs. noted qs root (get nat_cmp roots j)) p) ∙ e)) [
        | inl here ↦ (id, among_positions id (inputs_in frame j) (λ z. cons_none (sym p ∙ z)), root_now ∙ here)
        | inr old ↦ from_old j r old
      ]
        where
          cons_none : {A : Type 0} {x : A} {xs : List A} → (x ∷ xs) ≡ [] → ⊥
          cons_none e = cc
