-- What a user's constraint means is its rule: the violations of a list of numbers, and those at a
-- place, each from 0 to 2^40. A rule of this project.
use Rattle.std.specs.Prelude.{ℕ, ℤ, ◌≤◌, ◌^◌, List}

pub record UserRule : Type 0 where
  pub viol_of : List ℤ → ℕ
  pub viol_at : List ℤ → ℕ → ℕ
  pub in_range : (xs : List ℤ) → viol_of xs ≤ 2 ^ 40
  pub in_range_at : (xs : List ℤ) (place : ℕ) → viol_at xs place ≤ 2 ^ 40
