-- Lists with one more item behind the others.
use Rattle.std.proofs.Common.{◌≡◌, ℕ, zero, suc, ◌<◌, ◌≤◌, List, [], ◌∷◌, ◌++◌, Some, length, refl, slice_get, Vec, arith}
use Rattle.cbl_base.specs.declared.ids.NodeId.{NodeId}
use Rattle.store_build.specs.Lists.{list_in}

pub got_old : {X : Type 0} (xs : List X) (y : X) (k : ℕ) → k < length xs → slice_get (xs ++ y ∷ []) k ≡ slice_get xs k
got_old [] y k lt = absurd (omega (arith, lt))
got_old (x ∷ xs) y zero lt = refl
got_old (x ∷ xs) y (suc k) lt = got_old xs y k (omega (arith, lt))

pub got_new : {X : Type 0} (xs : List X) (y : X) → slice_get (xs ++ y ∷ []) (length xs) ≡ Some y
got_new [] y = refl
got_new (x ∷ xs) y = got_new xs y

module _ {Z : Type 0} where
  pub in_old : (xs : List (Vec NodeId Z)) (v : Vec NodeId Z) (k : ℕ) → k < length xs → list_in (xs ++ v ∷ []) k ≡ list_in xs k
  in_old [] v k lt = absurd (omega (arith, lt))
  in_old (x ∷ xs) v zero lt = refl
  in_old (x ∷ xs) v (suc k) lt = in_old xs v k (omega (arith, lt))

  pub in_new : (xs : List (Vec NodeId Z)) (v : Vec NodeId Z) → list_in (xs ++ v ∷ []) (length xs) ≡ v.items
  in_new [] v = refl
  in_new (x ∷ xs) v = in_new xs v

  pub in_all : (bound : ℕ) (xs : List (Vec NodeId Z)) (v : Vec NodeId Z) → ((k : ℕ) → length (list_in xs k) ≤ bound) → length v.items ≤ bound → (k : ℕ) → length (list_in (xs ++ v ∷ []) k) ≤ bound
  in_all bound [] v all le zero = le
  in_all bound [] v all le (suc k) = omega arith
  in_all bound (x ∷ xs) v all le zero = all zero
  in_all bound (x ∷ xs) v all le (suc k) = in_all bound xs v (λ i. all (suc i)) le k
