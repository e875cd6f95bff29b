-- Lists that a function of the places gives.
use Rattle.std.proofs.Common.{◌≡◌, ◌≢◌, ℕ, ◌<◌, List, length, get_or, set, map, sym, ◌∙◌, subst, arith, ◌⊎◌, inl, inr}
use Rattle.std.specs.List.{range_with_len}
use Rattle.std.proofs.lemmas.List.{ext_get_or, length-set, get_or-set_same, get_or-set_other}
use Rattle.std.proofs.lemmas.List.FromFn.{get_or-map-range_with_len, length-map-range_with_len}

-- a list by its places
abbrev pub by_place : {X : Type 0} → ℕ → (ℕ → X) → List X
by_place n f = map f (range_with_len 0 n)

module _ {X : Type 0} (d : X) where
  pub at_place : (n : ℕ) (f : ℕ → X) (k : ℕ) → k < n → get_or (by_place n f) k d ≡ f k
  at_place n f k h = get_or-map-range_with_len f 0 n k k d h (omega arith)

  pub length_by_place : (n : ℕ) (f : ℕ → X) → length (by_place n f) ≡ n
  length_by_place n f = length-map-range_with_len f 0 n

  -- a list is what its places are
  pub is_by_place : (xs : List X) (n : ℕ) (f : ℕ → X) → length xs ≡ n → ((k : ℕ) → k < n → get_or xs k d ≡ f k) → xs ≡ by_place n f
  is_by_place xs n f e h = ext_get_or d xs (by_place n f) (e ∙ sym (length_by_place n f))
      (λ k lt. let within : k < n = omega (arith, lt, e) in h k within ∙ sym (at_place n f k within))

  pub same_by_place : (n : ℕ) (f g : ℕ → X) → ((k : ℕ) → k < n → f k ≡ g k) → by_place n f ≡ by_place n g
  same_by_place n f g h = is_by_place (by_place n f) n g (length_by_place n f) (λ k lt. at_place n f k lt ∙ h k lt)

  -- another one at one place
  pub set_by_place : (n : ℕ) (f g : ℕ → X) (k : ℕ) (y : X) → k < n → y ≡ g k → ((q : ℕ) → q ≢ k → f q ≡ g q) → set (by_place n f) k y ≡ by_place n g
  set_by_place n f g k y h here others = is_by_place (set (by_place n f) k y) n g (length-set (by_place n f) k y ∙ length_by_place n f)
      (λ q lt. elim (same_or_not q k) [
        | inl same ↦ subst (λ r. get_or (set (by_place n f) k y) r d ≡ g r) (sym same)
            (get_or-set_same (by_place n f) k y d (subst (λ m. k < m) (sym (length_by_place n f)) h) ∙ here)
        | inr apart ↦ get_or-set_other (by_place n f) k q y d apart ∙ at_place n f q lt ∙ others q apart
      ])
    where
      same_or_not : (q k : ℕ) → (q ≡ k) ⊎ (q ≢ k)
      same_or_not q k = grind arith
