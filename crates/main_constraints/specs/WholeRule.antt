-- A rule that tells of each place what it tells of the whole list, up to 2^40. A rule of this project.
use Rattle.std.specs.Prelude.{ℕ, ℤ, ◌^◌, List, min}
use Rattle.std.proofs.Math.Nat.{min-le_right}
use Rattle.user_constraint.specs.UserRule.{UserRule}

abbrev pub capped : ℕ → ℕ
capped n = min n (2 ^ 40)

abbrev pub whole_rule : (List ℤ → ℕ) → UserRule
whole_rule f = record {
  viol_of = λ xs. capped (f xs);
  viol_at = λ xs _. capped (f xs);
  in_range = λ xs. min-le_right (f xs) (2 ^ 40);
  in_range_at = λ xs _. min-le_right (f xs) (2 ^ 40);
}
