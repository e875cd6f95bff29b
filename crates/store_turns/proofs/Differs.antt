-- What differs.
use Rattle.std.proofs.Common.{◌≡◌, ◌≢◌, ℕ, cond, ℤ, Bool, true, false, not, ◌&&◌, List, [], ◌∷◌, refl, sym, ap, ◌∙◌, subst}
use Rattle.std.specs.Ordering.{int_eq}
use Rattle.std.proofs.lemmas.Bool.Decides.{Decides-int_eq}
use Rattle.std.specs.Prelude.{Decides}
use Rattle.cbl_base.specs.declared.input.Input.{Input}
use Rattle.cbl_base.specs.declared.input.Input.TheVariants.{Int, Set}
use Rattle.store_turns.specs.declared.outcome.Outcome.TheVariants.{Value}
use Rattle.store_turns.specs.Touch.{differs, same_members}

both_true : (a b : Bool) → (a && b) ≡ true → (a ≡ true) × (b ≡ true)
both_true true b e = (refl, e)
both_true false b e = absurd (cc)

same_list : (xs ys : List ℤ) → same_members xs ys ≡ true → xs ≡ ys
same_list [] [] e = refl
same_list [] (y ∷ ys) e = absurd (cc)
same_list (x ∷ xs) [] e = absurd (cc)
same_list (x ∷ xs) (y ∷ ys) e = let b = both_true (int_eq x y) (same_members xs ys) e in let h = (Decides-int_eq x y).0 b.0 in let t = same_list xs ys b.1 in ap (λ z. z ∷ xs) h ∙ ap (λ zs. y ∷ zs) t

int_self : (x : ℤ) → int_eq x x ≡ true
int_self x = (Decides-int_eq x x).1 refl

list_self : (xs : List ℤ) → same_members xs xs ≡ true
list_self [] = refl
list_self (x ∷ xs) = ap (λ b. b && same_members xs xs) (int_self x) ∙ list_self xs

from_not : (b : Bool) → not b ≡ false → b ≡ true
from_not true e = refl
from_not false e = absurd (cc)

pub same_value : (x y : Input) → differs (Value x) y ≡ false → x ≡ y
same_value (Int a) (Int b) e = ap (λ z. Int z) ((Decides-int_eq a b).0 (from_not _ e))
same_value (Set s) (Set t) e = ap (λ z. Set z) (same_list s t (from_not _ e))
same_value (Int a) (Set t) e = absurd (cc)
same_value (Set s) (Int b) e = absurd (cc)

pub no_difference : (x y : Input) → x ≡ y → differs (Value x) y ≡ false
no_difference x y e = sym (ap (λ z. differs (Value x) z) e) ∙ self x
  where
    self : (x : Input) → differs (Value x) x ≡ false
    self (Int a) = ap not (int_self a)
    self (Set s) = ap not (list_self s)

true_or_false : (b : Bool) → (b ≡ false → ⊥) → b ≡ true
true_or_false true h = refl
true_or_false false h = absurd (h refl)

pub difference : (x y : Input) → x ≢ y → differs (Value x) y ≡ true
difference x y ne = true_or_false _ (λ e. ne (same_value x y e))

pub charged : (x y : Input) (k : ℕ) → x ≢ y → cond (differs (Value x) y) k 0 ≡ k
charged x y k ne = ap (λ b. cond b k 0) (difference x y ne)

-- a test of two sets is whether they have the same members
pub same_from : (b : Bool) (xs ys : List ℤ) → Decides b (xs ≡ ys) → b ≡ same_members ys xs
same_from true xs ys d = sym (subst (λ zs. same_members zs xs ≡ true) (d.0 refl) (list_self xs))
same_from false xs ys d = sym (false_or_true (same_members ys xs) (λ e. absurd (not_both (d.1 (sym (same_list ys xs e))))))
  where
    false_or_true : (b : Bool) → (b ≡ true → ⊥) → b ≡ false
    false_or_true false h = refl
    false_or_true true h = absurd (h refl)

    not_both : false ≡ true → ⊥
    not_both e = cc

-- where the test says that nothing differs
pub value_from : (x y : Input) (b : Bool) → b ≡ not (differs (Value x) y) → b ≡ true → x ≡ y
value_from x y b e t = same_value x y (not_true _ (sym e ∙ t))
  where
    not_true : (d : Bool) → not d ≡ true → d ≡ false
    not_true false e = refl
    not_true true e = absurd (cc)

pub other_from : (x y : Input) (b : Bool) → b ≡ not (differs (Value x) y) → b ≡ false → differs (Value x) y ≡ true
other_from x y b e f = not_false _ (sym e ∙ f)
  where
    not_false : (d : Bool) → not d ≡ false → d ≡ true
    not_false true e = refl
    not_false false e = absurd (cc)

pub apart_from : (x y : Input) → differs (Value x) y ≡ true → y ≢ x
apart_from x y e s = absurd (both (no_difference x y (sym s)) e)
  where
    both : {b : Bool} → b ≡ false → b ≡ true → ⊥
    both e f = cc
