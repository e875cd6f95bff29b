-- The least of some numbers is one of them and none is below it; the greatest likewise.
use Rattle.std.proofs.Common.{◌≡◌, ℤ, ◌≤ℤ◌, ◌<◌, suc, List, [], ◌∷◌, length, ◌⊎◌, inl, inr, sym, fold, arith}
use Rattle.std.specs.Prelude.{Contains}
use Rattle.std.specs.Int.{int_min, int_max}
use Rattle.std.proofs.lemmas.Int.{fold-int_min_bounds, fold-int_min_reached, fold-int_max_bounds, fold-int_max_reached}
use Rattle.std.proofs.lemmas.List.Elements.{All-cons}
use Rattle.cbl_operations.specs.Operations.Least.{least_of}
use Rattle.cbl_operations.specs.Operations.Greatest.{greatest_of}
use Rattle.cbl_operations.specs.Places.{IsLeastOf, IsGreatestOf}
use Rattle.cbl_operations.proofs.LeastLemmas.{fold_min, fold_max}

-- the first of a list, or one of the others
reached : (x : ℤ) (xs : List ℤ) (v : ℤ) → (v ≡ x) ⊎ Contains xs v → Contains (x ∷ xs) v
reached x xs v (inl e) = (0, omega arith, sym e)
reached x xs v (inr found) = (suc found.0, omega (arith, found.1), found.2)

pub least_is : (xs : List ℤ) → 0 < length xs → Contains xs (least_of xs) × IsLeastOf xs (least_of xs)
least_is [] some = absurd (omega (arith, some))
least_is (x ∷ xs) some =
    let v = least_of (x ∷ xs) in
    let is : v ≡ fold int_min x xs = sym (fold_min x xs) in
    let low = fold-int_min_bounds x xs v is in
    (reached x xs v (fold-int_min_reached x xs v is), All-cons (λ (y : ℤ). v ≤ℤ y) x xs low.0 low.1)

pub greatest_is : (xs : List ℤ) → 0 < length xs → Contains xs (greatest_of xs) × IsGreatestOf xs (greatest_of xs)
greatest_is [] some = absurd (omega (arith, some))
greatest_is (x ∷ xs) some =
    let v = greatest_of (x ∷ xs) in
    let is : v ≡ fold int_max x xs = sym (fold_max x xs) in
    let high = fold-int_max_bounds x xs v is in
    (reached x xs v (fold-int_max_reached x xs v is), All-cons (λ (y : ℤ). y ≤ℤ v) x xs high.0 high.1)
