-- Maps by number as lists in order: the first failing id, and the changes.
use Rattle.std.proofs.Common.{◌≡◌, ◌≢◌, inl, inr, ℕ, zero, suc, ◌+◌, ◌-◌, ◌<◌, ◌≤◌, Bool, true, false, cond, List, [], ◌∷◌, map, Option, Some, None, fold, refl, sym, ap, ◌∙◌, subst, arith}
use Rattle.std.specs.BTreeMap.{is_at}
use Rattle.std.specs.Bool.{◌==◌}
use Rattle.std.specs.Option.{option_map}
use Rattle.std.specs.Map.{lookup, keys_of}
use Rattle.std.specs.List.{AllByRecursion}
use Rattle.std.specs.List.Sorted.{IsStrictlySortedBy}
use Rattle.std.specs.Ordering.{nat_cmp, is_eq}
use Rattle.std.specs.declared.cmp.Ordering.{Ordering}
use Rattle.std.specs.declared.cmp.Ordering.TheVariants.{Less, Equal, Greater}
use Rattle.std.proofs.lemmas.Cmp.{ranked}
use Rattle.std.proofs.lemmas.Bool.Decides.{eqb_tells}
use Rattle.cbl_base.specs.declared.input.Input.{Input}
use Rattle.cbl_base.specs.declared.faults.RunFault.{RunFault}
use Rattle.store_turns.specs.declared.outcome.Outcome.TheVariants.{Value}
use Rattle.store_turns.specs.Touch.{differs}
use Rattle.store_turns.proofs.Differs.{no_difference}
use Rattle.inc_store.specs.declared.changed.NodeChange.{NodeChange}
use Rattle.inc_store.specs.Course.{changed_at}
use Rattle.inc_store.specs.Faults.{and_later, first_failing}
use Rattle.inc_store.specs.Stores.{changes_between}

-- ---- looking numbers up
at_eq : (a b : ℕ) (o : Ordering) → o ≡ nat_cmp a b → is_eq o ≡ true → a ≡ b
at_eq a b Less e h = absurd (cc)
at_eq a b Equal e h = ranked a b Equal e
at_eq a b Greater e h = absurd (cc)

pub at_same : (a : ℕ) → is_at (nat_cmp a) a ≡ true
at_same a = by_order (nat_cmp a a) refl
  where
    by_order : (o : Ordering) → o ≡ nat_cmp a a → is_eq o ≡ true
    by_order Less e = let h : a < a = ranked a a Less e in absurd (omega (arith, h))
    by_order Equal e = refl
    by_order Greater e = let h : a < a = ranked a a Greater e in absurd (omega (arith, h))

pub at_other : (a b : ℕ) → a ≢ b → is_at (nat_cmp a) b ≡ false
at_other a b ne = by_test (is_at (nat_cmp a) b) refl
  where
    by_test : (t : Bool) → is_at (nat_cmp a) b ≡ t → t ≡ false
    by_test true e = absurd (ne (at_eq a b (nat_cmp a b) refl e))
    by_test false e = refl

module _ {X : Type 0} where
  -- all keys are from there on
  unfoldable pub From : ℕ → List (ℕ × X) → Type 0
  From n [] = Unit {0}
  From n (e ∷ es) = (n ≤ e.0) × From n es

  pub from_more : (m n : ℕ) (es : List (ℕ × X)) → m ≤ n → From n es → From m es
  unfolding From
  from_more m n [] le h = tt
  from_more m n (e ∷ es) le h = (let a = h.0 in omega (arith, a, le), from_more m n es le h.1)

  pub from_sorted : (k : ℕ) (es : List (ℕ × X)) → AllByRecursion (λ y. nat_cmp k y ≡ Less) (keys_of es) → From (k + 1) es
  unfolding From
  from_sorted k [] h = tt
  from_sorted k (e ∷ es) h = (let a : k < e.0 = ranked k e.0 Less (sym h.0) in omega (arith, a), from_sorted k es h.1)

  pub absent : (j n : ℕ) (es : List (ℕ × X)) → j < n → From n es → lookup (is_at (nat_cmp j)) es ≡ None
  unfolding From
  absent j n [] lt h = refl
  absent j n (e ∷ es) lt h = rw (at_other j e.0 (λ s. absurd (let a = h.0 in omega (arith, a, lt, s)))) (absent j n es lt h.1)

  pub found_from : (j n : ℕ) (x : X) (es : List (ℕ × X)) → From n es → lookup (is_at (nat_cmp j)) es ≡ Some x → n ≤ j
  unfolding From
  found_from j n x [] h e = absurd (cc)
  found_from j n x (p ∷ es) h e =
      elim (eqb_tells j p.0) [
        | inl t ↦ let a = h.0 in let b = t.1 in omega (arith, a, b)
        | inr f ↦ found_from j n x es h.1 (subst (λ b. cond b (Some p.1) (lookup (is_at (nat_cmp j)) es) ≡ Some x) (at_other j p.0 f.1) e)
      ]

-- ---- the first failing id
or_later : ℕ → Option RunFault → Option (ℕ × RunFault) → Option (ℕ × RunFault)
or_later id (Some fault) later = Some (id, fault)
or_later id None later = later

-- the same from the other end
first_own : List (ℕ × Option RunFault) → Option (ℕ × RunFault)
first_own [] = None
first_own (e ∷ es) = or_later e.0 e.1 (first_own es)

stays_first : (p : ℕ × RunFault) (es : List (ℕ × Option RunFault)) → fold and_later (Some p) es ≡ Some p
stays_first p [] = refl
stays_first p (e ∷ es) = stays_first p es

same_first : (es : List (ℕ × Option RunFault)) → first_failing es ≡ first_own es
unfolding first_own or_later
same_first [] = refl
same_first (e ∷ es) = by_own e.1 (same_first es)
  where
    by_own : (own : Option RunFault) → first_failing es ≡ first_own es → fold and_later (option_map (λ fault. (e.0, fault)) own) es ≡ or_later e.0 own (first_own es)
    by_own (Some f) same = stays_first (e.0, f) es
    by_own None same = same

none_owns : (j : ℕ) (f : RunFault) (es : List (ℕ × Option RunFault)) → first_own es ≡ None → lookup (is_at (nat_cmp j)) es ≡ Some (Some f) → ⊥
unfolding first_own or_later
none_owns j f [] e h = cc
none_owns j f (p ∷ es) e h = by_own (none_owns j f es) p.1 refl
  where
    not_some : (id : ℕ) (g : RunFault) → or_later id (Some g) (first_own es) ≡ None → ⊥
    not_some id g e = cc

    same_own : {A : Type 0} {x y : A} → Some x ≡ Some y → x ≡ y
    same_own e = cc

    by_own : (first_own es ≡ None → lookup (is_at (nat_cmp j)) es ≡ Some (Some f) → ⊥) → (own : Option RunFault) → p.1 ≡ own → ⊥
    by_own later (Some g) s = not_some p.0 g (sym (ap (λ o. or_later p.0 o (first_own es)) s) ∙ e)
    by_own later None s =
        elim (eqb_tells j p.0) [
          | inl t ↦ none_is (sym s ∙ same_own (sym (ap (λ b. cond b (Some p.1) (lookup (is_at (nat_cmp j)) es)) (subst (λ k. is_at (nat_cmp j) k ≡ true) t.1 (at_same j))) ∙ h))
          | inr d ↦ later (sym (ap (λ o. or_later p.0 o (first_own es)) s) ∙ e) (sym (ap (λ b. cond b (Some p.1) (lookup (is_at (nat_cmp j)) es)) (at_other j p.0 d.1)) ∙ h)
        ]
      where
        none_is : None ≡ Some f → ⊥
        none_is e = cc

owns_first : (id : ℕ) (f : RunFault) (es : List (ℕ × Option RunFault)) → IsStrictlySortedBy nat_cmp (keys_of es) → first_own es ≡ Some (id, f)
    → (lookup (is_at (nat_cmp id)) es ≡ Some (Some f)) × ((j : ℕ) (g : RunFault) → lookup (is_at (nat_cmp j)) es ≡ Some (Some g) → id ≤ j)
unfolding IsStrictlySortedBy first_own or_later
owns_first id f [] up e = absurd (cc)
owns_first id f (p ∷ es) up e = by_own (owns_first id f es up.1) p.1 refl
  where
    same_own : {A : Type 0} {x y : A} → Some x ≡ Some y → x ≡ y
    same_own e = cc

    same_pair : (p q : ℕ × RunFault) → Some p ≡ Some q → (p.0 ≡ q.0) × (p.1 ≡ q.1)
    same_pair p q e = (ap (λ (r : ℕ × RunFault). r.0) (same_own e), ap (λ (r : ℕ × RunFault). r.1) (same_own e))

    none_is : (g : RunFault) → None ≡ Some g → ⊥
    none_is g e = cc

    by_own : (first_own es ≡ Some (id, f) → (lookup (is_at (nat_cmp id)) es ≡ Some (Some f)) × ((j : ℕ) (g : RunFault) → lookup (is_at (nat_cmp j)) es ≡ Some (Some g) → id ≤ j)) → (own : Option RunFault) → p.1 ≡ own → (lookup (is_at (nat_cmp id)) (p ∷ es) ≡ Some (Some f)) × ((j : ℕ) (g : RunFault) → lookup (is_at (nat_cmp j)) (p ∷ es) ≡ Some (Some g) → id ≤ j)
    by_own further (Some g) s =
        let same = same_pair (p.0, g) (id, f) (sym (ap (λ o. or_later p.0 o (first_own es)) s) ∙ e) in (
          ap (λ b. cond b (Some p.1) (lookup (is_at (nat_cmp id)) es)) (subst (λ k. is_at (nat_cmp id) k ≡ true) (sym same.0) (at_same id)) ∙ ap (λ o. Some o) (s ∙ ap (λ z. Some z) same.1),
          λ j h is. elim (eqb_tells j p.0) [
            | inl t ↦ omega (arith, same.0, t.1)
            | inr d ↦ let a = found_from j (p.0 + 1) (Some h) es (from_sorted p.0 es up.0) (sym (ap (λ b. cond b (Some p.1) (lookup (is_at (nat_cmp j)) es)) (at_other j p.0 d.1)) ∙ is) in omega (arith, a, same.0)
          ],
        )
    by_own further None s =
        let later = further (sym (ap (λ o. or_later p.0 o (first_own es)) s) ∙ e) in
        let beyond = found_from id (p.0 + 1) (Some f) es (from_sorted p.0 es up.0) later.0 in (
          ap (λ b. cond b (Some p.1) (lookup (is_at (nat_cmp id)) es)) (at_other id p.0 (λ t. absurd (omega (arith, beyond, t)))) ∙ later.0,
          λ j h is. elim (eqb_tells j p.0) [
            | inl t ↦ absurd (none_is h (sym s ∙ same_own (sym (ap (λ b. cond b (Some p.1) (lookup (is_at (nat_cmp j)) es)) (subst (λ k. is_at (nat_cmp j) k ≡ true) t.1 (at_same j))) ∙ is)))
            | inr d ↦ later.1 j h (sym (ap (λ b. cond b (Some p.1) (lookup (is_at (nat_cmp j)) es)) (at_other j p.0 d.1)) ∙ is)
          ],
        )

pub none_fails : (j : ℕ) (f : RunFault) (es : List (ℕ × Option RunFault)) → first_failing es ≡ None → lookup (is_at (nat_cmp j)) es ≡ Some (Some f) → ⊥
none_fails j f es e h = none_owns j f es (sym (same_first es) ∙ e) h

pub fails_first : (id : ℕ) (f : RunFault) (es : List (ℕ × Option RunFault)) → IsStrictlySortedBy nat_cmp (keys_of es) → first_failing es ≡ Some (id, f)
    → (lookup (is_at (nat_cmp id)) es ≡ Some (Some f)) × ((j : ℕ) (g : RunFault) → lookup (is_at (nat_cmp j)) es ≡ Some (Some g) → id ≤ j)
fails_first id f es up e = owns_first id f es up (sym (same_first es) ∙ e)

-- ---- the changes in order
-- the change of the id i + j between two lists that begin at i
abbrev pub change_in : ℕ → List Input → List Input → ℕ → Option NodeChange
change_in i [] news j = None
change_in i (x ∷ xs) [] j = None
change_in i (x ∷ xs) (y ∷ ys) zero = cond (differs (Value y) x) (Some (changed_at i x y)) None
change_in i (x ∷ xs) (y ∷ ys) (suc j) = change_in (suc i) xs ys j

pub nothing_in : (i : ℕ) (es : List (ℕ × NodeChange)) → From i es → ((j : ℕ) → lookup (is_at (nat_cmp (i + j))) es ≡ None) → es ≡ []
unfolding From
nothing_in i [] from none = refl
nothing_in i (e ∷ es) from none = absurd (some_none (sym (ap (λ b. cond b (Some e.1) (lookup (is_at (nat_cmp (i + there.0))) es)) here) ∙ none there.0))
  where
    some_none : Some e.1 ≡ None → ⊥
    some_none e = cc

    there : (j : ℕ) × (i + j ≡ e.0)
    there = let a = from.0 in (e.0 - i, omega (arith, a))

    here : is_at (nat_cmp (i + there.0)) e.0 ≡ true
    here = subst (λ k. is_at (nat_cmp (i + there.0)) k ≡ true) there.1 (at_same (i + there.0))

pub in_order : (i : ℕ) (xs ys : List Input) (es : List (ℕ × NodeChange)) → IsStrictlySortedBy nat_cmp (keys_of es) → From i es → ((j : ℕ) → lookup (is_at (nat_cmp (i + j))) es ≡ change_in i xs ys j) → map (λ e. e.1) es ≡ changes_between i xs ys
unfolding From IsStrictlySortedBy
in_order i [] ys es up from all = ap (map (λ e. e.1)) (nothing_in i es from all)
in_order i (x ∷ xs) [] es up from all = ap (map (λ e. e.1)) (nothing_in i es from all)
in_order i (x ∷ xs) (y ∷ ys) es up from all = by_test (in_order (suc i) xs ys) (differs (Value y) x) refl es up from all
  where
    later_key : (es : List (ℕ × NodeChange)) → ((j : ℕ) → lookup (is_at (nat_cmp (i + j))) es ≡ change_in i (x ∷ xs) (y ∷ ys) j) → (j : ℕ) → lookup (is_at (nat_cmp (suc i + j))) es ≡ change_in (suc i) xs ys j
    later_key es all j = let s : i + suc j ≡ suc i + j = omega arith in subst (λ k. lookup (is_at (nat_cmp k)) es ≡ change_in (suc i) xs ys j) s (all (suc j))

    first_key : (es : List (ℕ × NodeChange)) → ((j : ℕ) → lookup (is_at (nat_cmp (i + j))) es ≡ change_in i (x ∷ xs) (y ∷ ys) j) → lookup (is_at (nat_cmp i)) es ≡ cond (differs (Value y) x) (Some (changed_at i x y)) None
    first_key es all = let s : i + 0 ≡ i = omega arith in subst (λ k. lookup (is_at (nat_cmp k)) es ≡ cond (differs (Value y) x) (Some (changed_at i x y)) None) s (all 0)

    some_is : {a b : NodeChange} → Some a ≡ Some b → a ≡ b
    some_is e = cc

    none_some : {a : NodeChange} → None ≡ Some a → ⊥
    none_some e = cc

    by_test : ((fs : List (ℕ × NodeChange)) → IsStrictlySortedBy nat_cmp (keys_of fs) → From (suc i) fs → ((j : ℕ) → lookup (is_at (nat_cmp (suc i + j))) fs ≡ change_in (suc i) xs ys j) → map (λ e. e.1) fs ≡ changes_between (suc i) xs ys)
        → (t : Bool) → differs (Value y) x ≡ t → (es : List (ℕ × NodeChange)) → IsStrictlySortedBy nat_cmp (keys_of es) → From i es → ((j : ℕ) → lookup (is_at (nat_cmp (i + j))) es ≡ change_in i (x ∷ xs) (y ∷ ys) j)
        → map (λ e. e.1) es ≡ cond t (changed_at i x y ∷ changes_between (suc i) xs ys) (changes_between (suc i) xs ys)
    by_test later true t [] up from all = absurd (none_some (first_key [] all ∙ ap (λ b. cond b (Some (changed_at i x y)) None) t))
    by_test later true t (e ∷ es) up from all =
        let at = first_key (e ∷ es) all ∙ ap (λ b. cond b (Some (changed_at i x y)) None) t in
        elim (eqb_tells i e.0) [
          | inl s ↦
              let same : e.1 ≡ changed_at i x y = some_is (sym (ap (λ b. cond b (Some e.1) (lookup (is_at (nat_cmp i)) es)) (subst (λ k. is_at (nat_cmp i) k ≡ true) s.1 (at_same i))) ∙ at) in
              let at_it = s.1 in let beyond : From (suc i) es = from_more (suc i) (e.0 + 1) es (omega (arith, at_it)) (from_sorted e.0 es up.0) in
              ap (λ z. z ∷ map (λ e. e.1) es) same ∙ ap (λ zs. changed_at i x y ∷ zs) (later es up.1 beyond
              (λ j. sym (ap (λ b. cond b (Some e.1) (lookup (is_at (nat_cmp (suc i + j))) es)) (at_other (suc i + j) e.0 (λ q. absurd (let z = s.1 in omega (arith, q, z))))) ∙ later_key (e ∷ es) all j))
          | inr d ↦ absurd (none_some (sym (absent i (i + 1) (e ∷ es) (omega arith) (let a = from.0 in let b = d.1 in (omega (arith, a, b), from_more (i + 1) (e.0 + 1) es (omega (arith, a)) (from_sorted e.0 es up.0)))) ∙ at))
        ]
    by_test later false t es up from all =
        later es up (not_here es up from (first_key es all ∙ ap (λ b. cond b (Some (changed_at i x y)) None) t)) (later_key es all)
      where
        not_here : (es : List (ℕ × NodeChange)) → IsStrictlySortedBy nat_cmp (keys_of es) → From i es → lookup (is_at (nat_cmp i)) es ≡ None → From (suc i) es
        not_here [] up from none = tt
        not_here (e ∷ es) up from none =
            elim (eqb_tells i e.0) [
              | inl s ↦ absurd (none_some (sym (sym (ap (λ b. cond b (Some e.1) (lookup (is_at (nat_cmp i)) es)) (subst (λ k. is_at (nat_cmp i) k ≡ true) s.1 (at_same i))) ∙ none)))
              | inr d ↦ let a = from.0 in let b = d.1 in (omega (arith, a, b), from_more (suc i) (e.0 + 1) es (omega (arith, a)) (from_sorted e.0 es up.0))
            ]

-- between a list and itself there is none
pub nothing_changed : (i : ℕ) (xs : List Input) → changes_between i xs xs ≡ []
nothing_changed i [] = refl
nothing_changed i (x ∷ xs) = ap (λ b. cond b (changed_at i x x ∷ changes_between (suc i) xs xs) (changes_between (suc i) xs xs)) (no_difference x x refl) ∙ nothing_changed (suc i) xs

pub some_there : (n : ℕ) → (n == 0) ≡ false → 0 < n
some_there zero e = absurd (cc)
some_there (suc n) e = omega arith
