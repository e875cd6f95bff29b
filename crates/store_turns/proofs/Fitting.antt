-- One id gets another outcome: what that does to the nodes that use it.
use Rattle.std.proofs.Common.{◌≡◌, ◌≢◌, ℕ, suc, cond, List, [], ◌∷◌, map, Option, Some, None, refl, sym, ap, ◌∙◌, subst, ◌⊎◌, inl, inr}
use Rattle.std.proofs.lemmas.Bool.Decides.{eqb_tells}
use Rattle.cbl_base.specs.Changes.{after_changes}
use Rattle.cbl_base.specs.declared.input.Input.{Input}
use Rattle.cbl_base.specs.declared.input.Change.{Change}
use Rattle.store_turns.specs.declared.outcome.Outcome.{Outcome}
use Rattle.store_turns.specs.declared.outcome.Outcome.TheVariants.{Value, Fails, Missing}
use Rattle.store_turns.specs.Meaning.{values_of, with_value}
use Rattle.store_turns.specs.Telling.{NoneAtAny, LeadsTo, positions, pushed, blocked, to_come, Fits}
use Rattle.store_turns.proofs.ChangeLists.{AllOld, changes_at, set_each, old_later, set_later, old_before, are_changes, changes-append, after-append, apart_at, sets_each, distinct_positions, and_all, to_come-pushed}

abbrev Whole : Outcome → Option (List Input) → List Input → Type 0
Whole o r xs = (x : Input) × (ys : List Input) × (o ≡ Value x) × (r ≡ Some ys) × (xs ≡ x ∷ ys)

whole : (o : Outcome) (r : Option (List Input)) (xs : List Input) → with_value o r ≡ Some xs → Whole o r xs
whole (Value x) (Some ys) xs e = (x, ys, refl, refl, (cc))
whole (Value x) None xs e = absurd (cc)
whole (Fails f) r xs e = absurd (cc)
whole Missing r xs e = absurd (cc)

none_behind : (o : Outcome) → with_value o None ≡ None
none_behind (Value x) = refl
none_behind (Fails f) = refl
none_behind Missing = refl

same_value : (x y : Input) → Value x ≡ Value y → x ≡ y
same_value x y e = cc

module _ (o p : ℕ → Outcome) (id : ℕ) (old : Input) (was : o id ≡ Value old) (others : (i : ℕ) → i ≢ id → p i ≡ o i) where
  -- no value comes back
  pub none_stays : (is : List ℕ) → values_of (map o is) ≡ None → values_of (map p is) ≡ None
  none_stays [] e = absurd (cc)
  none_stays (i ∷ is) e =
      elim (eqb_tells i id) [
        | inl t ↦ at_it i is (none_stays is) (ap o t.1 ∙ was) e
        | inr f ↦ rw (others i f.1) (off_it (o i) (values_of (map o is)) (values_of (map p is)) (none_stays is) e)
      ]
    where
      off_it : (q : Outcome) (r s : Option (List Input)) → (r ≡ None → s ≡ None) → with_value q r ≡ None → with_value q s ≡ None
      off_it (Value x) (Some ys) s f e = absurd (cc)
      off_it (Value x) None s f e = ap (with_value (Value x)) (f refl)
      off_it (Fails g) r s f e = refl
      off_it Missing r s f e = refl

      from_value : (r : Option (List Input)) → with_value (Value old) r ≡ None → r ≡ None
      from_value (Some ys) e = absurd (cc)
      from_value None e = refl

      at_it : (i : ℕ) (is : List ℕ) → (values_of (map o is) ≡ None → values_of (map p is) ≡ None) → o i ≡ Value old → with_value (o i) (values_of (map o is)) ≡ None → with_value (p i) (values_of (map p is)) ≡ None
      at_it i is f w e =
          let h : values_of (map o is) ≡ None = from_value _ (subst (λ q. with_value q (values_of (map o is)) ≡ None) w e) in
          rw (f h) (none_behind (p i))

  -- who does not use it sees no change
  pub unseen : (is : List ℕ) → positions id is ≡ [] → map o is ≡ map p is
  unseen [] e = refl
  unseen (i ∷ is) e =
      elim (eqb_tells i id) [
        | inl t ↦ absurd (cons_not (subst (λ b. cond b (0 ∷ map suc (positions id is)) (map suc (positions id is)) ≡ []) t.0 e))
        | inr f ↦ rw (others i f.1) (ap (λ l. o i ∷ l) (unseen is (map_none (positions id is) (subst (λ b. cond b (0 ∷ map suc (positions id is)) (map suc (positions id is)) ≡ []) f.0 e))))
      ]
    where
      cons_not : {A : Type 0} {x : A} {xs : List A} → (x ∷ xs) ≡ [] → ⊥
      cons_not e = cc

      map_none : (ps : List ℕ) → map suc ps ≡ [] → ps ≡ []
      map_none [] e = refl
      map_none (p ∷ ps) e = absurd (cc)

  -- below what has no value there is none
  pub lost_or_unseen : ((x : Input) → p id ≢ Value x) → (is : List ℕ) → (values_of (map p is) ≡ None) ⊎ (positions id is ≡ [])
  lost_or_unseen lost [] = inr refl
  lost_or_unseen lost (i ∷ is) =
      elim (eqb_tells i id) [
        | inl t ↦ inl (not_value (p i) (values_of (map p is)) (λ x e. lost x (sym (ap p t.1) ∙ e)))
        | inr f ↦ elim (lost_or_unseen lost is) [
          | inl n ↦ inl (ap (with_value (p i)) n ∙ none_behind (p i))
          | inr e ↦ inr (rw f.0 (ap (map suc) e))
        ]
      ]
    where
      not_value : (q : Outcome) (r : Option (List Input)) → ((x : Input) → q ≢ Value x) → with_value q r ≡ None
      not_value (Value x) r h = absurd (h x refl)
      not_value (Fails f) r h = refl
      not_value Missing r h = refl

  pub fit_lost : ((x : Input) → p id ≢ Value x) → (h : List Input) (is : List ℕ) (w : Option (Option (List Change))) → Fits h (map o is) (to_come w) → Fits h (map p is) (to_come (blocked (positions id is) w))
  fit_lost lost h is w fit =
      elim (lost_or_unseen lost is) [
        | inl n ↦ lost_one (positions id is) n refl
        | inr e ↦ rw e (subst (λ os. Fits h os (to_come w)) (unseen is e) fit)
      ]
    where
      lost_one : (ps : List ℕ) → values_of (map p is) ≡ None → positions id is ≡ ps → Fits h (map p is) (to_come (blocked ps w))
      lost_one [] n e = subst (λ os. Fits h os (to_come w)) (unseen is e) fit
      lost_one (q ∷ ps) n e = n

  module _ (new : Input) (now : p id ≡ Value new) (leads : LeadsTo old new) where
    pub old_at : (is : List ℕ) (xs : List Input) → values_of (map o is) ≡ Some xs → AllOld old new leads xs (positions id is)
    unfolding AllOld
    old_at [] xs e = tt
    old_at (i ∷ is) xs e =
        let w = whole (o i) (values_of (map o is)) xs e in
        subst (λ zs. AllOld old new leads zs (positions id (i ∷ is))) (sym w.4)
        (elim (eqb_tells i id) [
          | inl t ↦ rw t.0 (ap (λ x. Some x) (same_value w.0 old (sym w.2 ∙ ap o t.1 ∙ was)), old_later old new leads w.0 w.1 (positions id is) (old_at is w.1 w.3))
          | inr f ↦ rw f.0 (old_later old new leads w.0 w.1 (positions id is) (old_at is w.1 w.3))
        ])

    pub new_at : (is : List ℕ) (xs : List Input) → values_of (map o is) ≡ Some xs → values_of (map p is) ≡ Some (set_each old new leads xs (positions id is))
    unfolding set_each
    new_at [] xs e = e
    new_at (i ∷ is) xs e =
        let w = whole (o i) (values_of (map o is)) xs e in
        let rest = new_at is w.1 w.3 in
        elim (eqb_tells i id) [
          | inl t ↦ rw (t.0, w.4, set_later old new leads new w.1 (positions id is), ap p t.1 ∙ now, rest) refl
          | inr f ↦ rw (f.0, w.4, set_later old new leads w.0 w.1 (positions id is), others i f.1 ∙ w.2, rest) refl
        ]

    -- a node that uses it fits again, with the changes
    pub fit_value : (h : List Input) (is : List ℕ) (w : Option (Option (List Change))) → Fits h (map o is) (to_come w) → ((ds : List Change) → to_come w ≡ Some ds → NoneAtAny ds (positions id is)) → Fits h (map p is) (to_come (pushed (changes_at old new leads (positions id is)) w))
    unfolding and_all
    fit_value h is w fit free = rw (to_come-pushed (changes_at old new leads (positions id is)) w) (with_all (to_come w) fit free)
      where
        with_all : (d : Option (List Change)) → Fits h (map o is) d → ((ds : List Change) → d ≡ Some ds → NoneAtAny ds (positions id is)) → Fits h (map p is) (and_all (changes_at old new leads (positions id is)) d)
        with_all None fit free = none_stays is fit
        with_all (Some ds) fit free =
            let ps = positions id is in
            let there = old_at is (after_changes h ds) fit.1 in
            let before = old_before old new leads h ds ps (free ds refl) there in
            let distinct = distinct_positions old new leads id is in (
              changes-append h ds (changes_at old new leads ps) fit.0 (are_changes old new leads h ps before distinct) (apart_at old new leads ds ps (free ds refl)),
              new_at is (after_changes h ds) fit.1 ∙ ap (λ l. Some l) (sym (after-append h ds (changes_at old new leads ps) ∙ sets_each old new leads (after_changes h ds) ps there distinct)),
            )
