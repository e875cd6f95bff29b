-- Sums over lists in which one place changes.
use Rattle.std.proofs.Common.{◌≡◌, ◌≢◌, ℕ, zero, suc, ◌+◌, ◌≤◌, List, [], ◌∷◌, ◌++◌, set, refl, ap, sym, arith}
use mathlib.Core.Option.{some, some-injective, some-ne-none}
use lib.ListN.{get_elem?}
use Rattle.iter_claim.specs.Numbers.{total}

module _ {X : Type 0} (f : X → ℕ) where
  pub total_set : (l : List X) (i : ℕ) (v w : X) → get_elem? l i ≡ some v → total f (set l i w) + f v ≡ total f l + f w
  total_set [] i v w e = absurd (some-ne-none v (sym e))
  total_set (x ∷ xs) zero v w e = let h : f x ≡ f v = ap f (some-injective x v e) in let a : ℕ = f x in let b : ℕ = f w in let t : ℕ = total f xs in omega arith
  total_set (x ∷ xs) (suc i) v w e = let h = total_set xs i v w e in let a : ℕ = total f (set xs i w) in let b : ℕ = total f xs in let p : ℕ = f v in let q : ℕ = f w in let h' : a + p ≡ b + q = h in let y : ℕ = f x in omega arith

  pub total_snoc : (l : List X) (w : X) → total f (l ++ w ∷ []) ≡ total f l + f w
  total_snoc [] w = omega arith
  total_snoc (x ∷ xs) w = let h = total_snoc xs w in let a : ℕ = total f (xs ++ w ∷ []) in let b : ℕ = total f xs in let h' : a ≡ b + f w = h in omega arith

  pub total_at : (l : List X) (i : ℕ) (v : X) → get_elem? l i ≡ some v → f v ≤ total f l
  total_at [] i v e = absurd (some-ne-none v (sym e))
  total_at (x ∷ xs) zero v e = let h : f x ≡ f v = ap f (some-injective x v e) in omega arith
  total_at (x ∷ xs) (suc i) v e = let h = total_at xs i v e in omega arith

  pub total_two : (l : List X) (i j : ℕ) (v w : X) → i ≢ j → get_elem? l i ≡ some v → get_elem? l j ≡ some w → f v + f w ≤ total f l
  total_two [] i j v w ne e d = absurd (some-ne-none v (sym e))
  total_two (x ∷ xs) zero zero v w ne e d = absurd (ne refl)
  total_two (x ∷ xs) zero (suc j) v w ne e d = let h : f x ≡ f v = ap f (some-injective x v e) in let t = total_at xs j w d in omega arith
  total_two (x ∷ xs) (suc i) zero v w ne e d = let h : f x ≡ f w = ap f (some-injective x w d) in let t = total_at xs i v e in omega arith
  total_two (x ∷ xs) (suc i) (suc j) v w ne e d = let h = total_two xs i j v w (λ p. ne (ap suc p)) e d in omega arith

  -- the sum stays
  pub total_same : (l : List X) (i : ℕ) (v w : X) → get_elem? l i ≡ some v → f w ≡ f v → total f (set l i w) ≡ total f l
  total_same l i v w e same = let h = total_set l i v w e in let a : ℕ = total f (set l i w) in let b : ℕ = total f l in let h' : a + f v ≡ b + f w = h in omega arith

pub at_put : {A : Type 0} (l : List A) (i : ℕ) (v w : A) → get_elem? l i ≡ some v → get_elem? (set l i w) i ≡ some w
at_put [] i v w e = absurd (some-ne-none v (sym e))
at_put (x ∷ xs) zero v w e = refl
at_put (x ∷ xs) (suc i) v w e = at_put xs i v w e

module _ {X : Type 0} (f g : X → ℕ) (le : (x : X) → f x ≤ g x) where
  pub total_le : (l : List X) → total f l ≤ total g l
  total_le [] = omega arith
  total_le (x ∷ xs) = let h = total_le xs in let a = le x in omega arith

  -- where all of the greater sum lies in one place, so does all of the lesser
  pub total_all : (l : List X) (i : ℕ) (v : X) → get_elem? l i ≡ some v → total f l + g v ≤ total g l + f v
  total_all [] i v e = absurd (some-ne-none v (sym e))
  total_all (x ∷ xs) zero v e = let a : f x ≡ f v = ap f (some-injective x v e) in let b : g x ≡ g v = ap g (some-injective x v e) in let h = total_le xs in omega arith
  total_all (x ∷ xs) (suc i) v e = let h = total_all xs i v e in let a = le x in omega arith

pub total_append : {X : Type 0} (f : X → ℕ) (xs ys : List X) → total f (xs ++ ys) ≡ total f xs + total f ys
total_append f [] ys = omega arith
total_append f (x ∷ xs) ys = let h = total_append f xs ys in omega arith

-- where all others count nothing
pub total_none : {X : Type 0} (f : X → ℕ) (l : List X) → ((j : ℕ) (u : X) → get_elem? l j ≡ some u → f u ≡ 0) → total f l ≡ 0
total_none f [] h = refl
total_none f (x ∷ xs) h = let a = h 0 x refl in let b = total_none f xs (λ j u e. h (suc j) u e) in omega arith

pub total_only : {X : Type 0} (f : X → ℕ) (l : List X) (i : ℕ) (v : X) → get_elem? l i ≡ some v → ((j : ℕ) (u : X) → j ≢ i → get_elem? l j ≡ some u → f u ≡ 0) → total f l ≡ f v
total_only f [] i v e h = absurd (some-ne-none v (sym e))
total_only f (x ∷ xs) zero v e h = let a : f x ≡ f v = ap f (some-injective x v e) in let b = total_none f xs (λ j u d. h (suc j) u (λ q. omega arith) d) in omega arith
total_only f (x ∷ xs) (suc i) v e h = let a = h 0 x (λ q. omega arith) refl in let b = total_only f xs i v e (λ j u ne d. h (suc j) u (λ q. let q' : suc j ≡ suc i = q in ne (omega arith)) d) in omega arith

-- what one view loses another gains
pub joined_sum : {X : Type 0} (f : X → ℕ) (l : List X) (i j : ℕ) (v w x y : X) → get_elem? l i ≡ some v → get_elem? (set l i x) j ≡ some w → f x ≡ f v + f w → f y ≡ 0 → total f (set (set l i x) j y) ≡ total f l
joined_sum f l i j v w x y at there gains loses =
    let p = total_set f l i v x at in let q = total_set f (set l i x) j w y there in
    let a : ℕ = total f (set (set l i x) j y) in let b : ℕ = total f (set l i x) in let c : ℕ = total f l in let vv : ℕ = f v in let ww : ℕ = f w in let xx : ℕ = f x in let yy : ℕ = f y in
    let p' : b + vv ≡ c + xx = p in let q' : a + ww ≡ b + yy = q in let g : xx ≡ vv + ww = gains in let z : yy ≡ 0 = loses in omega arith

pub joined_most : {X : Type 0} (f : X → ℕ) (l : List X) (i j : ℕ) (v w x y : X) → get_elem? l i ≡ some v → get_elem? (set l i x) j ≡ some w → f x ≤ f v + f w → f y ≡ 0 → total f (set (set l i x) j y) ≤ total f l
joined_most f l i j v w x y at there gains loses =
    let p = total_set f l i v x at in let q = total_set f (set l i x) j w y there in
    let a : ℕ = total f (set (set l i x) j y) in let b : ℕ = total f (set l i x) in let c : ℕ = total f l in let vv : ℕ = f v in let ww : ℕ = f w in let xx : ℕ = f x in let yy : ℕ = f y in
    let p' : b + vv ≡ c + xx = p in let q' : a + ww ≡ b + yy = q in let g : xx ≤ vv + ww = gains in let z : yy ≡ 0 = loses in omega arith
