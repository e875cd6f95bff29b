-- What is said of lists of drawn numbers. A rule of this project.
use Rattle.std.specs.Prelude.{◌≡◌, ◌==◌, ℕ, ◌+◌, ◌<◌, ◌≤◌, cond, List, [], ◌∷◌, length}

-- the sum of what each item counts
abbrev pub total : {X : Type 0} → (X → ℕ) → List X → ℕ
total f [] = 0
total f (x ∷ xs) = f x + total f xs

-- how often a number stands in a list
abbrev pub times : ℕ → List ℕ → ℕ
times x ys = total (λ y. cond (y == x) 1 0) ys

-- all numbers of a list are less than k
abbrev pub AllLess : ℕ → List ℕ → Type 0
AllLess k [] = Unit {0}
AllLess k (x ∷ xs) = (x < k) × AllLess k xs

-- a list of n numbers holds each number below n once, and no other
pub record HoldsEachOnce (xs : List ℕ) : Type 0 where
  pub once : (x : ℕ) → x < length xs → times x xs ≡ 1
  pub no_other : (x : ℕ) → length xs ≤ x → times x xs ≡ 0
