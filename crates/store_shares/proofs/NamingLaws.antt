-- Numbers are put into the sets of variables, and what is in the sets then.
use Rattle.std.proofs.Common.{◌≡◌, ◌⊎◌, inl, inr, ℕ, zero, suc, ◌+◌, ◌<◌, ◌≤◌, ◌/◌, Bool, true, false, ◌||◌, ◌&&◌, List, [], ◌∷◌, ◌++◌, Vec, get_or, length, set, refl, sym, ap, ◌∙◌, subst, arith, eqb-true, eq-eqb}
use Rattle.std.specs.Prelude.{nat_eq}
use Rattle.std.specs.List.{list_any}
use Rattle.std.specs.declared.alloc.Global.{Global}
use Rattle.std.proofs.lemmas.Bool.{cases_eq}
use Rattle.std.proofs.lemmas.List.{length-set, length_push}
use Rattle.std.proofs.lemmas.List.Folds.{list_any-append}
use Rattle.std.proofs.lemmas.Option.{slice_get_read}
use Rattle.cbl_base.proofs.PlaceLemmas.{others_stay}
use Rattle.store_shares.specs.Closing.{names_in}
use Rattle.store_shares.specs.Naming.{words_in, words_of, IsPut, IsNaming}
use Rattle.store_shares.specs.Words.{has, IsRising, IsUpTo}
use Rattle.store_shares.specs.declared.naming.Naming.{Naming}
use Rattle.store_shares.specs.declared.words.Word.{Word}

-- ---- tests
eq_false : (a b : ℕ) → (a ≡ b → ⊥) → nat_eq a b ≡ false
eq_false a b ne = by_test (nat_eq a b) refl
  where
    by_test : (t : Bool) → nat_eq a b ≡ t → nat_eq a b ≡ false
    by_test true e = absurd (ne (eqb-true a b e))
    by_test false e = e

or_false : (b : Bool) → (b || false) ≡ b
or_false true = refl
or_false false = refl

and_false : (b : Bool) → (b && false) ≡ false
and_false true = refl
and_false false = refl

-- ---- a set is written
set_here : (sets : List (Vec Word Global)) (i : ℕ) (words : Vec Word Global) → i < length sets → words_of (set sets i words) i ≡ words.items
set_here [] i words lt = absurd (omega arith)
set_here (s ∷ sets) zero words lt = refl
set_here (s ∷ sets) (suc i) words lt = set_here sets i words (omega arith)

set_there : (sets : List (Vec Word Global)) (i x : ℕ) (words : Vec Word Global) → (x ≡ i → ⊥) → words_of (set sets i words) x ≡ words_of sets x
set_there sets i x words ne = ap words_in (others_stay sets i x words ne)

-- what an index read is the set there
pub words_read : (sets : List (Vec Word Global)) (i : ℕ) (words : Vec Word Global) → i < length sets → words ≡ get_or sets i words → words_of sets i ≡ words.items
words_read sets i words lt is = ap words_in (slice_get_read sets (length sets) i words refl lt is)

-- ---- a number is put into the sets of variables
put_none : (old new : List (Vec Word Global)) (number v : ℕ) → new ≡ old → length old ≤ v → IsPut old new number (v ∷ [])
put_none old new number v e past = subst (λ ss. IsPut old ss number (v ∷ [])) (sym e) (record {
  width = refl;
  both = λ x k lt.
      let ne : nat_eq v x ≡ false = eq_false v x (λ is. absurd (omega (arith, is, lt, past))) in
      sym (ap (λ b. has (words_of old x) k || ((b || false) && nat_eq k number)) ne ∙ or_false (has (words_of old x) k));
  rising = λ x rising up. rising;
  up = λ x up. up;
})

module _ (old : List (Vec Word Global)) (v number : ℕ) (words : Vec Word Global) (lt : v < length old)
    (both : (k : ℕ) → has words.items k ≡ (has (words_of old v) k || nat_eq k number))
    (rising : IsRising (words_of old v) → IsUpTo (words_of old v) (number / 64) → IsRising words.items)
    (up : IsUpTo (words_of old v) (number / 64) → IsUpTo words.items (number / 64)) where
  both_put : (x k : ℕ) → (x ≡ v) ⊎ (x ≡ v → ⊥) → has (words_of (set old v words) x) k ≡ (has (words_of old x) k || ((nat_eq v x || false) && nat_eq k number))
  both_put x k (inl is) =
      let mine : nat_eq v x ≡ true = eq-eqb v x (sym is) in
      let here : words_of (set old v words) x ≡ words.items = ap (words_of (set old v words)) is ∙ set_here old v words lt in
      ap (λ ws. has ws k) here ∙ both k ∙ ap (λ y. has (words_of old y) k || nat_eq k number) (sym is)
      ∙ sym (ap (λ b. has (words_of old x) k || ((b || false) && nat_eq k number)) mine)
  both_put x k (inr ne) =
      let other : nat_eq v x ≡ false = eq_false v x (λ e. ne (sym e)) in
      ap (λ ws. has ws k) (set_there old v x words ne)
      ∙ sym (ap (λ b. has (words_of old x) k || ((b || false) && nat_eq k number)) other ∙ or_false (has (words_of old x) k))

  rising_put : (x : ℕ) → (x ≡ v) ⊎ (x ≡ v → ⊥) → IsRising (words_of old x) → IsUpTo (words_of old x) (number / 64) → IsRising (words_of (set old v words) x)
  rising_put x (inl is) r u =
      let here : words.items ≡ words_of (set old v words) x = sym (ap (words_of (set old v words)) is ∙ set_here old v words lt) in
      subst IsRising here (rising (subst (λ y. IsRising (words_of old y)) is r) (subst (λ y. IsUpTo (words_of old y) (number / 64)) is u))
  rising_put x (inr ne) r u = subst IsRising (sym (set_there old v x words ne)) r

  up_put : (x : ℕ) → (x ≡ v) ⊎ (x ≡ v → ⊥) → IsUpTo (words_of old x) (number / 64) → IsUpTo (words_of (set old v words) x) (number / 64)
  up_put x (inl is) u =
      let here : words.items ≡ words_of (set old v words) x = sym (ap (words_of (set old v words)) is ∙ set_here old v words lt) in
      subst (λ ws. IsUpTo ws (number / 64)) here (up (subst (λ y. IsUpTo (words_of old y) (number / 64)) is u))
  up_put x (inr ne) u = subst (λ ws. IsUpTo ws (number / 64)) (sym (set_there old v x words ne)) u

  pub put_one : (new : List (Vec Word Global)) → new ≡ set old v words → IsPut old new number (v ∷ [])
  put_one new e = subst (λ ss. IsPut old ss number (v ∷ [])) (sym e) (record {
    width = length-set old v words;
    both = λ x k within. both_put x k (cases_eq x v);
    rising = λ x. rising_put x (cases_eq x v);
    up = λ x. up_put x (cases_eq x v);
  })

pub put_past : (old new : List (Vec Word Global)) (number v : ℕ) → new ≡ old → length old ≤ v → IsPut old new number (v ∷ [])
put_past = put_none

pub put_start : (sets : List (Vec Word Global)) (number : ℕ) → IsPut sets sets number []
put_start sets number = record {
  width = refl;
  both = λ x k lt. sym (or_false (has (words_of sets x) k));
  rising = λ x rising up. rising;
  up = λ x up. up;
}

or_and : (a b c d : Bool) → ((a || (b && d)) || (c && d)) ≡ (a || ((b || c) && d))
or_and true b c d = refl
or_and false true c true = refl
or_and false true true false = refl
or_and false true false false = refl
or_and false false c d = refl

pub put_then : (old mid new : List (Vec Word Global)) (number : ℕ) (vs ws : List ℕ) → IsPut old mid number vs → IsPut mid new number ws → IsPut old new number (vs ++ ws)
put_then old mid new number vs ws first second = record {
  width = second.width ∙ first.width;
  both = λ x k lt.
      second.both x k (subst (λ n. x < n) (sym first.width) lt)
      ∙ ap (λ b. b || (list_any (λ d. nat_eq d x) ws && nat_eq k number)) (first.both x k lt)
      ∙ or_and (has (words_of old x) k) (list_any (λ d. nat_eq d x) vs) (list_any (λ d. nat_eq d x) ws) (nat_eq k number)
      ∙ ap (λ b. has (words_of old x) k || (b && nat_eq k number)) (sym (list_any-append (λ d. nat_eq d x) vs ws));
  rising = λ x rising up. second.rising x (first.rising x rising up) (first.up x up);
  up = λ x up. second.up x (first.up x up);
}

-- ---- a list more
suc_eq : (a b : ℕ) → nat_eq (suc a) (suc b) ≡ nat_eq a b
suc_eq a b = choose (cases_eq a b)
  where
    choose : (a ≡ b) ⊎ (a ≡ b → ⊥) → nat_eq (suc a) (suc b) ≡ nat_eq a b
    choose (inl is) = eq-eqb (suc a) (suc b) (ap suc is) ∙ sym (eq-eqb a b is)
    choose (inr ne) = eq_false (suc a) (suc b) (λ e. ne (omega (arith, e))) ∙ sym (eq_false a b ne)

names_more : (lists : List (List ℕ)) (list : List ℕ) (x k : ℕ) → names_in (lists ++ list ∷ []) x k ≡ (names_in lists x k || (list_any (λ d. nat_eq d x) list && nat_eq k (length lists)))
names_more [] list x zero = choose (list_any (λ d. nat_eq d x) list)
  where
    choose : (b : Bool) → b ≡ (false || (b && true))
    choose true = refl
    choose false = refl
names_more [] list x (suc k) = sym (ap (λ b. list_any (λ d. nat_eq d x) list && b) (eq_false (suc k) 0 (λ e. omega (arith, e))) ∙ and_false (list_any (λ d. nat_eq d x) list))
names_more (l ∷ lists) list x zero =
    let ne : nat_eq 0 (suc (length lists)) ≡ false = eq_false 0 (suc (length lists)) (λ e. omega (arith, e)) in
    sym (ap (λ b. list_any (λ d. nat_eq d x) l || (list_any (λ d. nat_eq d x) list && b)) ne
    ∙ ap (λ b. list_any (λ d. nat_eq d x) l || b) (and_false (list_any (λ d. nat_eq d x) list)) ∙ or_false (list_any (λ d. nat_eq d x) l))
names_more (l ∷ lists) list x (suc k) =
    names_more lists list x k
    ∙ ap (λ b. names_in lists x k || (list_any (λ d. nat_eq d x) list && b)) (sym (suc_eq k (length lists)))

up_next : (ws : List Word) (n : ℕ) → IsUpTo ws (n / 64) → IsUpTo ws ((n + 1) / 64)
up_next ws n up i lt = let u = up i lt in omega (arith, u)

pub naming_more : (variables : ℕ) (old new : Naming) (lists : List (List ℕ)) (list : List ℕ) → IsNaming variables old lists → IsPut old.sets.items new.sets.items old.count list → new.count ≡ old.count + 1 →
    IsNaming variables new (lists ++ list ∷ [])
naming_more variables old new lists list naming put count = record {
  width = put.width ∙ naming.width;
  count = count ∙ ap (λ n. n + 1) naming.count ∙ sym (length_push lists list);
  named = λ x k lt.
      put.both x k (subst (λ n. x < n) (sym naming.width) lt)
      ∙ ap (λ b. b || (list_any (λ d. nat_eq d x) list && nat_eq k old.count)) (naming.named x k lt)
      ∙ ap (λ n. names_in lists x k || (list_any (λ d. nat_eq d x) list && nat_eq k n)) naming.count
      ∙ sym (names_more lists list x k);
  rising = λ x. put.rising x (naming.rising x) (naming.up x);
  up = λ x. subst (λ n. IsUpTo (words_of new.sets.items x) (n / 64)) (sym count) (up_next (words_of new.sets.items x) old.count (put.up x (naming.up x)));
}

-- ---- no list
-- all sets are empty
abbrev pub AreEmpty : List (Vec Word Global) → Type 0
AreEmpty sets = (x : ℕ) → words_of sets x ≡ []

pub empty_more : (sets : List (Vec Word Global)) (words : Vec Word Global) → AreEmpty sets → words.items ≡ [] → AreEmpty (sets ++ words ∷ [])
empty_more [] words empty is zero = is
empty_more [] words empty is (suc x) = refl
empty_more (s ∷ sets) words empty is zero = empty zero
empty_more (s ∷ sets) words empty is (suc x) = empty_more sets words (λ y. empty (suc y)) is x

pub naming_none : (variables : ℕ) (naming : Naming) → length naming.sets.items ≡ variables → naming.count ≡ 0 → AreEmpty naming.sets.items → IsNaming variables naming []
naming_none variables naming width count empty = record {
  width = width;
  count = count;
  named = λ x k lt. ap (λ ws. has ws k) (empty x);
  rising = λ x. subst IsRising (sym (empty x)) (λ i j lt within. absurd (omega (arith, within)));
  up = λ x. subst (λ ws. IsUpTo ws (naming.count / 64)) (sym (empty x)) (λ i within. absurd (omega (arith, within)));
}
