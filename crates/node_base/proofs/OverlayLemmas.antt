-- Counts that are kept in two lists, of which the first goes before.
use Rattle.std.proofs.Common.{◌≡◌, ◌≢◌, ℕ, zero, suc, ◌+◌, ◌<◌, ℤ, Bool, true, false, cond, inl, inr, List, [], ◌∷◌, ◌++◌, length, get_or, set, take, refl, ap, sym, ◌∙◌, subst, add-one, arith}
use Rattle.std.specs.Prelude.{Option, Some, None, unwrap_or}
use Rattle.std.specs.Option.{option_map}
use Rattle.std.specs.Map.{lookup}
use Rattle.std.specs.Ordering.{int_eq}
use Rattle.std.proofs.lemmas.Bool.{cases_Bool, cond-true, cond-false, both_ways}
use Rattle.std.proofs.lemmas.List.{length-take, get_or-take, take_more_set}
use Rattle.cbl_base.specs.Counts.{count_of}
use Rattle.cbl_base.proofs.SetLemmas.{int_eq-itself, int_eq-true}
use Rattle.node_base.specs.Counting.{count_over, place_among, IsWritten}

int_eq-flip : (x y : ℤ) → int_eq x y ≡ false → int_eq y x ≡ false
int_eq-flip x y e = by_test (int_eq y x) refl
  where
    by_test : (b : Bool) → int_eq y x ≡ b → b ≡ false
    by_test true t = absurd (both_ways (int_eq x y) e (ap (λ z. int_eq x z) (int_eq-true y x t) ∙ int_eq-itself x))
    by_test false t = refl

-- ---- the first place of a number: here, or later
module _ (v : ℤ) (e : ℤ × ℕ) (es : List (ℤ × ℕ)) where
  place_at_head : int_eq v e.0 ≡ true → place_among v (e ∷ es) ≡ Some 0
  place_at_head t = cond-true (int_eq v e.0) (Some 0) (option_map suc (place_among v es)) t

  place_in_tail : int_eq v e.0 ≡ false → place_among v (e ∷ es) ≡ option_map suc (place_among v es)
  place_in_tail t = cond-false (int_eq v e.0) (Some 0) (option_map suc (place_among v es)) t

  lookup_at_head : int_eq v e.0 ≡ true → lookup (λ k. int_eq v k) (e ∷ es) ≡ Some e.1
  lookup_at_head t = cond-true (int_eq v e.0) (Some e.1) (lookup (λ k. int_eq v k) es) t

  lookup_in_tail : int_eq v e.0 ≡ false → lookup (λ k. int_eq v k) (e ∷ es) ≡ lookup (λ k. int_eq v k) es
  lookup_in_tail t = cond-false (int_eq v e.0) (Some e.1) (lookup (λ k. int_eq v k) es) t

none_before : (o : Option ℕ) → option_map suc o ≡ None → o ≡ None
none_before None e = refl
none_before (Some p) e = absurd cc

some_before : (o : Option ℕ) (p : ℕ) → option_map suc o ≡ Some p → (q : ℕ) × (o ≡ Some q) × (p ≡ suc q)
some_before None p e = absurd cc
some_before (Some q) p e = (q, refl, cc)

-- no count of a number at the head, nor in the tail
not_here : (v : ℤ) (e : ℤ × ℕ) (es : List (ℤ × ℕ)) → place_among v (e ∷ es) ≡ None → (int_eq v e.0 ≡ false) × (place_among v es ≡ None)
not_here v e es h =
    elim (cases_Bool (int_eq v e.0)) [
      | inl t ↦ let apart : ◌≡◌ {A = Option ℕ} None (Some 0) = sym h ∙ place_at_head v e es t in absurd cc
      | inr t ↦ (t, none_before (place_among v es) (sym (place_in_tail v e es t) ∙ h))
    ]

-- ---- a walk over the counts
pub place_here : (v : ℤ) (xs : List (ℤ × ℕ)) (p : ℕ) (d : ℤ × ℕ) → place_among v (take p xs) ≡ None → p < length xs → (get_or xs p d).0 ≡ v → place_among v xs ≡ Some p
place_here v [] p d none lt at = absurd (omega arith)
place_here v (e ∷ es) zero d none lt at = place_at_head v e es (ap (λ z. int_eq v z) at ∙ int_eq-itself v)
place_here v (e ∷ es) (suc p) d none lt at =
    let far = not_here v e (take p es) none in
    place_in_tail v e es far.0 ∙ ap (option_map suc) (place_here v es p d far.1 (omega arith) at)

place_passed_suc : (v : ℤ) (xs : List (ℤ × ℕ)) (p : ℕ) (d : ℤ × ℕ) → place_among v (take p xs) ≡ None → p < length xs → (get_or xs p d).0 ≢ v → place_among v (take (suc p) xs) ≡ None
place_passed_suc v [] p d none lt other = absurd (omega arith)
place_passed_suc v (e ∷ es) zero d none lt other =
    elim (cases_Bool (int_eq v e.0)) [
      | inl t ↦ absurd (other (sym (int_eq-true v e.0 t)))
      | inr t ↦ place_in_tail v e [] t
    ]
place_passed_suc v (e ∷ es) (suc p) d none lt other =
    let far = not_here v e (take p es) none in
    place_in_tail v e (take (suc p) es) far.0 ∙ ap (option_map suc) (place_passed_suc v es p d far.1 (omega arith) other)

pub place_passed : (v : ℤ) (xs : List (ℤ × ℕ)) (p : ℕ) (d : ℤ × ℕ) → place_among v (take p xs) ≡ None → p < length xs → (get_or xs p d).0 ≢ v → place_among v (take (p + 1) xs) ≡ None
place_passed v xs p d none lt other = subst (λ q. place_among v (take q xs) ≡ None) (sym (add-one p)) (place_passed_suc v xs p d none lt other)

pub place_within : (v : ℤ) (xs : List (ℤ × ℕ)) (p : ℕ) → place_among v xs ≡ Some p → p < length xs
place_within v [] p at = absurd cc
place_within v (e ∷ es) p at =
    elim (cases_Bool (int_eq v e.0)) [
      | inl t ↦ let is : ◌≡◌ {A = Option ℕ} (Some p) (Some 0) = sym at ∙ place_at_head v e es t in let zero_is : p ≡ 0 = cc in omega (arith, zero_is)
      | inr t ↦
          let before = some_before (place_among v es) p (sym (place_in_tail v e es t) ∙ at) in
          let later = place_within v es before.0 before.1 in
          omega (arith, later, before.2)
    ]

-- ---- what is found in the two lists
pub found_first : (v : ℤ) (xs ys : List (ℤ × ℕ)) (p : ℕ) (d : ℤ × ℕ) → place_among v xs ≡ Some p → lookup (λ k. int_eq v k) (xs ++ ys) ≡ Some (get_or xs p d).1
found_first v [] ys p d at = absurd cc
found_first v (e ∷ es) ys p d at =
    elim (cases_Bool (int_eq v e.0)) [
      | inl t ↦
          let is : ◌≡◌ {A = Option ℕ} (Some p) (Some 0) = sym at ∙ place_at_head v e es t in
          let zero_is : p ≡ 0 = cc in
          lookup_at_head v e (es ++ ys) t ∙ ap (λ q. Some (get_or (e ∷ es) q d).1) (sym zero_is)
      | inr t ↦
          let before = some_before (place_among v es) p (sym (place_in_tail v e es t) ∙ at) in
          lookup_in_tail v e (es ++ ys) t ∙ found_first v es ys before.0 d before.1 ∙ ap (λ q. Some (get_or (e ∷ es) q d).1) (sym before.2)
    ]

pub found_later : (v : ℤ) (xs ys : List (ℤ × ℕ)) → place_among v xs ≡ None → lookup (λ k. int_eq v k) (xs ++ ys) ≡ lookup (λ k. int_eq v k) ys
found_later v [] ys none = refl
found_later v (e ∷ es) ys none = let far = not_here v e es none in lookup_in_tail v e (es ++ ys) far.0 ∙ found_later v es ys far.1

-- ---- a count that is written
-- behind a count of another number
written_behind : (y : ℤ) (n : ℕ) (e : ℤ × ℕ) (es es' : List (ℤ × ℕ)) → int_eq y e.0 ≡ false → IsWritten es es' y n → IsWritten (e ∷ es) (e ∷ es') y n
written_behind y n e es es' far up v =
    elim (cases_Bool (int_eq y v)) [
      | inl t ↦
          let off : int_eq v e.0 ≡ false = subst (λ z. int_eq z e.0 ≡ false) (int_eq-true y v t) far in
          lookup_in_tail v e es' off ∙ up v ∙ cond-true (int_eq y v) (Some n) (lookup (λ k. int_eq v k) es) t
          ∙ sym (cond-true (int_eq y v) (Some n) (lookup (λ k. int_eq v k) (e ∷ es)) t)
      | inr t ↦
          ap (λ o. cond (int_eq v e.0) (Some e.1) o) (up v ∙ cond-false (int_eq y v) (Some n) (lookup (λ k. int_eq v k) es) t)
          ∙ sym (cond-false (int_eq y v) (Some n) (lookup (λ k. int_eq v k) (e ∷ es)) t)
    ]

-- in front of a list
written_front : (y : ℤ) (n : ℕ) (es : List (ℤ × ℕ)) → IsWritten es ((y, n) ∷ es) y n
written_front y n es v =
    elim (cases_Bool (int_eq y v)) [
      | inl t ↦
          let same : int_eq v y ≡ true = ap (λ z. int_eq v z) (int_eq-true y v t) ∙ int_eq-itself v in
          lookup_at_head v (y, n) es same ∙ sym (cond-true (int_eq y v) (Some n) (lookup (λ k. int_eq v k) es) t)
      | inr t ↦ lookup_in_tail v (y, n) es (int_eq-flip y v t) ∙ sym (cond-false (int_eq y v) (Some n) (lookup (λ k. int_eq v k) es) t)
    ]

-- in place of another count of the number
written_over : (y : ℤ) (n m : ℕ) (es : List (ℤ × ℕ)) → IsWritten ((y, m) ∷ es) ((y, n) ∷ es) y n
written_over y n m es v =
    elim (cases_Bool (int_eq y v)) [
      | inl t ↦ written_front y n es v ∙ cond-true (int_eq y v) (Some n) (lookup (λ k. int_eq v k) es) t ∙ sym (cond-true (int_eq y v) (Some n) (lookup (λ k. int_eq v k) ((y, m) ∷ es)) t)
      | inr t ↦
          lookup_in_tail v (y, n) es (int_eq-flip y v t) ∙ sym (lookup_in_tail v (y, m) es (int_eq-flip y v t))
          ∙ sym (cond-false (int_eq y v) (Some n) (lookup (λ k. int_eq v k) ((y, m) ∷ es)) t)
    ]

pub written_later : (y : ℤ) (n : ℕ) (xs ys ys' : List (ℤ × ℕ)) → place_among y xs ≡ None → IsWritten ys ys' y n → IsWritten (xs ++ ys) (xs ++ ys') y n
written_later y n [] ys ys' none up = up
written_later y n (e ∷ es) ys ys' none up = let far = not_here y e es none in written_behind y n e (es ++ ys) (es ++ ys') far.0 (written_later y n es ys ys' far.1 up)

pub written_between : (y : ℤ) (n : ℕ) (xs ys : List (ℤ × ℕ)) → place_among y xs ≡ None → IsWritten (xs ++ ys) ((xs ++ (y, n) ∷ []) ++ ys) y n
written_between y n [] ys none = written_front y n ys
written_between y n (e ∷ es) ys none = let far = not_here y e es none in written_behind y n e (es ++ ys) ((es ++ (y, n) ∷ []) ++ ys) far.0 (written_between y n es ys far.1)

pub written_at : (y : ℤ) (n : ℕ) (xs ys : List (ℤ × ℕ)) (p : ℕ) → place_among y xs ≡ Some p → IsWritten (xs ++ ys) (set xs p (y, n) ++ ys) y n
written_at y n [] ys p at = absurd cc
written_at y n (e ∷ es) ys p at =
    elim (cases_Bool (int_eq y e.0)) [
      | inl t ↦
          let is : ◌≡◌ {A = Option ℕ} (Some p) (Some 0) = sym at ∙ place_at_head y e es t in
          let zero_is : p ≡ 0 = cc in
          subst (λ q. IsWritten ((e ∷ es) ++ ys) (set (e ∷ es) q (y, n) ++ ys) y n) (sym zero_is)
          (subst (λ z. IsWritten ((z, e.1) ∷ (es ++ ys)) ((y, n) ∷ (es ++ ys)) y n) (int_eq-true y e.0 t) (written_over y n e.1 (es ++ ys)))
      | inr t ↦
          let before = some_before (place_among y es) p (sym (place_in_tail y e es t) ∙ at) in
          subst (λ q. IsWritten ((e ∷ es) ++ ys) (set (e ∷ es) q (y, n) ++ ys) y n) (sym before.2)
          (written_behind y n e (es ++ ys) (set es before.0 (y, n) ++ ys) t (written_at y n es ys before.0 before.1))
    ]

take_set : (n p : ℕ) (xs : List (ℤ × ℕ)) (x : ℤ × ℕ) → take n (set xs p x) ≡ set (take n xs) p x
take_set zero p xs x = refl
take_set (suc n) p [] x = refl
take_set (suc n) zero (y ∷ xs) x = refl
take_set (suc n) (suc p) (y ∷ xs) x = ap (λ t. y ∷ t) (take_set n p xs x)

-- ---- of so many first counts, and the later ones
module _ (first later kept : List (ℤ × ℕ)) (len : ℕ) (is : take len first ++ later ≡ kept) (y : ℤ) where
  pub shown_first : (xs : List ℤ) (p : ℕ) (d : ℤ × ℕ) → place_among y (take len first) ≡ Some p → (get_or first p d).1 ≡ count_over xs kept y
  shown_first xs p d at =
      let within = place_within y (take len first) p at in
      let lt : p < len = omega (arith, within, length-take len first) in
      ap (λ (e : ℤ × ℕ). e.1) (sym (get_or-take len first p d lt)) ∙ ap (λ o. unwrap_or o (count_of y xs)) (sym (found_first y (take len first) later p d at))
      ∙ ap (λ es. count_over xs es y) is

  pub shown_later : (xs : List ℤ) (n : ℕ) → place_among y (take len first) ≡ None → Some n ≡ lookup (λ k. int_eq y k) later → n ≡ count_over xs kept y
  shown_later xs n none there = ap (λ o. unwrap_or o (count_of y xs)) (there ∙ sym (found_later y (take len first) later none)) ∙ ap (λ es. count_over xs es y) is

  pub shown_under : (xs : List ℤ) → place_among y (take len first) ≡ None → None ≡ lookup (λ k. int_eq y k) later → count_of y xs ≡ count_over xs kept y
  shown_under xs none off = ap (λ o. unwrap_or o (count_of y xs)) (off ∙ sym (found_later y (take len first) later none)) ∙ ap (λ es. count_over xs es y) is

  pub put_first : (p n : ℕ) → place_among y (take len first) ≡ Some p → IsWritten kept (take len (set first p (y, n)) ++ later) y n
  put_first p n at = subst (λ es. IsWritten es (take len (set first p (y, n)) ++ later) y n) is
      (subst (λ es. IsWritten (take len first ++ later) (es ++ later) y n) (sym (take_set len p first (y, n))) (written_at y n (take len first) later p at))

  pub put_next : (n : ℕ) → place_among y (take len first) ≡ None → len < length first → IsWritten kept (take (len + 1) (set first len (y, n)) ++ later) y n
  put_next n none lt = subst (λ es. IsWritten es (take (len + 1) (set first len (y, n)) ++ later) y n) is
      (subst (λ es. IsWritten (take len first ++ later) (es ++ later) y n) (sym (take_more_set first len (y, n) lt)) (written_between y n (take len first) later none))

  pub put_later : (n : ℕ) (later' : List (ℤ × ℕ)) → place_among y (take len first) ≡ None → IsWritten later later' y n → IsWritten kept (take len first ++ later') y n
  put_later n later' none up = subst (λ es. IsWritten es (take len first ++ later') y n) is (written_later y n (take len first) later later' none up)
