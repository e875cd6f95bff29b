-- The change from an old value to a new one of the same kind, wherever the old value stands.
use Rattle.std.proofs.Common.{◌≡◌, ℕ, ℤ, ◌+◌, ◌<◌, ◌≤◌, true, not, ◌&&◌, List, [], ◌∷◌, ◌++◌, length, take, get_or, set, cond, ◌⊎◌, pos, refl, sym, ap, ◌∙◌, subst, arith, inl, inr, take_all}
use Rattle.std.specs.Prelude.{filter}
use Rattle.std.proofs.lemmas.Bool.{cases_Bool}
use Rattle.std.proofs.lemmas.List.Elements.{filter_more}
use Rattle.std.proofs.lemmas.Option.{get_or_from_slice_get}
use Rattle.cbl_base.specs.Inputs.{number_kind, set_kind, kind_of}
use Rattle.cbl_base.specs.Sets.{IsRising, is_member, with_members, without_members, set_of}
use Rattle.cbl_base.specs.Changes.{edited, IsEdit, AreMembers, AreNoMembers}
use Rattle.cbl_base.specs.declared.input.Input.TheVariants.{Int, Set}
use Rattle.cbl_base.proofs.SetLemmas.{is_member-filter, is_member-with_members, is_member-without_members, rising-filter, rising-with_members, rising-without_members, same_set, set_of-rising}
use Rattle.store_turns.specs.Telling.{without, LeadsTo}

-- ---- the members that another set lacks
pub without-rising : (s t : List ℤ) → IsRising s → set_of (without t s) ≡ without t s
without-rising s t rising = set_of-rising (without t s) (rising-filter (λ v. not (is_member v t)) s rising)

-- one more of them
pub lacks_more : (s t ms : List ℤ) (i : ℕ) (d : ℤ) → i < length s → ms ≡ without t (take i s) → without t (take (i + 1) s) ≡ ms ++ cond (not (is_member (get_or s i d) t)) (get_or s i d ∷ []) []
lacks_more s t ms i d lt e = filter_more (λ v. not (is_member v t)) s i d lt ∙ ap (λ z. z ++ cond (not (is_member (get_or s i d) t)) (get_or s i d ∷ []) []) (sym e)

pub all_taken : (s t ms : List ℤ) (i : ℕ) → length s ≤ i → ms ≡ without t (take i s) → ms ≡ without t s
all_taken s t ms i le e = e ∙ ap (without t) (take_all i s le)

is_member-lacks : (v : ℤ) (s t : List ℤ) → is_member v (without t s) ≡ (not (is_member v t) && is_member v s)
is_member-lacks v s t = is_member-filter (λ w. not (is_member w t)) v s

-- the set with what the other has, and without what the other lacks, is the other
pub edited_is : (s t : List ℤ) → IsRising s → IsRising t → without_members (without t s) (with_members (without s t) s) ≡ t
edited_is s t rs rt =
    same_set _ t (rising-without_members (without t s) _ (rising-with_members (without s t) s rs)) rt (λ v.
    let a = is_member-without_members v (without t s) (with_members (without s t) s) in
    let b = is_member-with_members v (without s t) s in
    let c = is_member-lacks v s t in
    let d = is_member-lacks v t s in
    grind (arith, a, b, c, d))

no_members : (vs s : List ℤ) → AreNoMembers (filter (λ v. not (is_member v s)) vs) s
no_members [] s = tt
no_members (v ∷ vs) s =
    elim (cases_Bool (is_member v s)) [
      | inl e ↦ rw e (no_members vs s)
      | inr e ↦ rw e (e, no_members vs s)
    ]

more_members : (vs : List ℤ) (x : ℤ) (s : List ℤ) → AreMembers vs s → AreMembers vs (x ∷ s)
more_members [] x s h = tt
more_members (v ∷ vs) x s h = (let e = h.0 in grind (arith, e), more_members vs x s h.1)

are_members : (s t : List ℤ) → AreMembers (filter (λ v. not (is_member v t)) s) s
are_members [] t = tt
are_members (x ∷ xs) t =
    elim (cases_Bool (is_member x t)) [
      | inl e ↦ rw e (more_members (filter (λ v. not (is_member v t)) xs) x xs (are_members xs t))
      | inr e ↦ rw e (here x xs, more_members (filter (λ v. not (is_member v t)) xs) x xs (are_members xs t))
    ]
  where
    here : (x : ℤ) (xs : List ℤ) → is_member x (x ∷ xs) ≡ true
    here x xs = grind arith

pub leads_numbers : (a b : ℤ) → LeadsTo (Int a) (Int b)
leads_numbers a b = record {
  is = λ xs p h. h;
  sets = λ xs p h. refl;
  place = λ p. refl;
}

pub leads_sets : (s t : List ℤ) → IsRising s → IsRising t → LeadsTo (Set s) (Set t)
leads_sets s t rs rt = record {
  is = λ xs p h. subst (λ o. IsEdit (without s t) (without t s) o) (sym h) (no_members t s, are_members s t);
  sets = λ xs p h. ap (λ v. set xs p v) (ap (edited (without s t) (without t s)) (get_or_from_slice_get xs p (Set s) (Int (pos 0)) h) ∙ ap (λ m. Set m) (edited_is s t rs rt));
  place = λ p. refl;
}

-- there is none between a number and a set
pub no_change : (a : ℤ) (s : List ℤ) {P : Type 0} → (kind_of (Set s) ≡ kind_of (Int a)) ⊎ (kind_of (Int a) ≡ kind_of (Set s)) → P
no_change a s (inl e) = absurd (kinds_differ e)
  where
    kinds_differ : set_kind ≡ number_kind → ⊥
    kinds_differ e = cc
no_change a s (inr e) = absurd (kinds_differ e)
  where
    kinds_differ : number_kind ≡ set_kind → ⊥
    kinds_differ e = cc
