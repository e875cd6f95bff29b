-- Numbers of 64 bits that are few enough have a total of less than 126 bits, as do its parts. A rule of
-- this project.
use Rattle.std.specs.Prelude.{ℤ, pos, neg_ℤ, ◌≤ℤ◌, ◌<◌, ◌^◌, List, length, All, FitsSigned}
use Rattle.std.specs.Int.{w64}

-- each number fits 64 bits, and there are fewer than 2^62 of them
pub record AreFew (xs : List ℤ) : Type 0 where
  pub each : All (λ x. FitsSigned w64 x) xs
  pub few : length xs < 2 ^ 62

-- the number has 126 bits at most
pub record IsSmall (z : ℤ) : Type 0 where
  pub low : neg_ℤ (pos (2 ^ 125)) ≤ℤ z
  pub high : z ≤ℤ pos (2 ^ 125)
