-- The least and the greatest of a list are what a walk over it keeps.
use Rattle.std.proofs.Common.{◌≡◌, ℤ, List, [], ◌∷◌, refl, ap, ◌∙◌, arith, fold}
use Rattle.std.specs.Int.{int_min, int_max}
use Rattle.std.proofs.lemmas.Int.{ints}
use Rattle.cbl_operations.specs.Forms.{number_at}
use Rattle.cbl_operations.specs.Operations.Least.{least_of}
use Rattle.cbl_operations.specs.Operations.Greatest.{greatest_of}

min_assoc : (x y z : ℤ) → int_min (int_min x y) z ≡ int_min x (int_min y z)
min_assoc x y z = grind (arith, ints)

min_first : (x y : ℤ) (ys : List ℤ) → least_of (int_min x y ∷ ys) ≡ int_min x (least_of (y ∷ ys))
min_first x y [] = refl
min_first x y (z ∷ zs) = min_assoc x y (least_of (z ∷ zs))

pub fold_min : (x : ℤ) (xs : List ℤ) → fold int_min x xs ≡ least_of (x ∷ xs)
fold_min x [] = refl
fold_min x (y ∷ ys) = fold_min (int_min x y) ys ∙ min_first x y ys

min_itself : (x : ℤ) → int_min x x ≡ x
min_itself x = grind (arith, ints)

pub walk_min : (xs : List ℤ) → fold int_min (number_at xs 0) xs ≡ least_of xs
walk_min [] = refl
walk_min (x ∷ xs) = ap (λ z. fold int_min z xs) (min_itself x) ∙ fold_min x xs

max_assoc : (x y z : ℤ) → int_max (int_max x y) z ≡ int_max x (int_max y z)
max_assoc x y z = grind (arith, ints)

max_first : (x y : ℤ) (ys : List ℤ) → greatest_of (int_max x y ∷ ys) ≡ int_max x (greatest_of (y ∷ ys))
max_first x y [] = refl
max_first x y (z ∷ zs) = max_assoc x y (greatest_of (z ∷ zs))

pub fold_max : (x : ℤ) (xs : List ℤ) → fold int_max x xs ≡ greatest_of (x ∷ xs)
fold_max x [] = refl
fold_max x (y ∷ ys) = fold_max (int_max x y) ys ∙ max_first x y ys

max_itself : (x : ℤ) → int_max x x ≡ x
max_itself x = grind (arith, ints)

pub walk_max : (xs : List ℤ) → fold int_max (number_at xs 0) xs ≡ greatest_of xs
walk_max [] = refl
walk_max (x ∷ xs) = ap (λ z. fold int_max z xs) (max_itself x) ∙ fold_max x xs
