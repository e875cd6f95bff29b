-- Lists of lists, and places that may be empty.
use Rattle.std.proofs.Common.{◌≡◌, ◌≢◌, ℕ, zero, suc, ◌<◌, List, [], ◌∷◌, ◌++◌, length, get_or, set, slice_get, Option, Some, None, refl, sym, ap, arith, Vec}
use Rattle.store_build.specs.Lists.{list_in}

-- an empty list behind the others
pub in-push_empty : {A Z : Type 0} (xs : List (Vec A Z)) (v : Vec A Z) (i : ℕ) → v.items ≡ [] → list_in (xs ++ v ∷ []) i ≡ list_in xs i
in-push_empty [] v zero e = e
in-push_empty [] v (suc i) e = refl
in-push_empty (x ∷ xs) v zero e = refl
in-push_empty (x ∷ xs) v (suc i) e = in-push_empty xs v i e

-- one list is written
pub in-set_same : {A Z : Type 0} (xs : List (Vec A Z)) (i : ℕ) (v : Vec A Z) → i < length xs → list_in (set xs i v) i ≡ v.items
in-set_same [] i v lt = absurd (omega arith)
in-set_same (x ∷ xs) zero v lt = refl
in-set_same (x ∷ xs) (suc i) v lt = in-set_same xs i v (omega arith)

pub in-set_other : {A Z : Type 0} (xs : List (Vec A Z)) (i k : ℕ) (v : Vec A Z) → k ≢ i → list_in (set xs i v) k ≡ list_in xs k
in-set_other [] i k v ne = refl
in-set_other (x ∷ xs) zero zero v ne = absurd (ne refl)
in-set_other (x ∷ xs) zero (suc k) v ne = refl
in-set_other (x ∷ xs) (suc i) zero v ne = refl
in-set_other (x ∷ xs) (suc i) (suc k) v ne = in-set_other xs i k v (λ e. ne (ap suc e))

-- the list that an index reads
pub in-read : {A Z : Type 0} (xs : List (Vec A Z)) (i : ℕ) (v : Vec A Z) → i < length xs → v ≡ get_or xs i v → v.items ≡ list_in xs i
in-read {A} {Z} [] i v lt e = absurd (omega arith)
in-read {A} {Z} (x ∷ xs) zero v lt e = ap (λ (w : Vec A Z). w.items) e
in-read {A} {Z} (x ∷ xs) (suc i) v lt e = in-read xs i v (omega arith) e

-- nothing in one place more
pub push_none : {A : Type 0} (xs : List (Option A)) (i : ℕ) → get_or (xs ++ None ∷ []) i None ≡ get_or xs i None
push_none [] zero = refl
push_none [] (suc i) = refl
push_none (x ∷ xs) zero = refl
push_none (x ∷ xs) (suc i) = push_none xs i

pub none_in : {A : Type 0} (xs : List (Option A)) (i : ℕ) → xs ≡ [] → get_or xs i None ≡ None
none_in [] zero e = refl
none_in [] (suc i) e = refl
none_in (x ∷ xs) i e = absurd (cc)

-- what stands at a place
pub at_place : {A : Type 0} (xs : List A) (i : ℕ) (x : A) → i < length xs → x ≡ get_or xs i x → slice_get xs i ≡ Some x
at_place [] i x lt e = absurd (omega arith)
at_place (y ∷ ys) zero x lt e = ap (λ z. Some z) (sym e)
at_place (y ∷ ys) (suc i) x lt e = at_place ys i x (omega arith) e
