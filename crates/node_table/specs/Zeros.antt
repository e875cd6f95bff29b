-- The rule of the tables' constraint of a user: no number is to be 0. The violations are how many are, and
-- at a place 1 where it is. A rule of this project.
use Rattle.std.specs.Prelude.{ℕ, ℤ, pos, ◌^◌, List, [], ◌∷◌, min, slice_index_or}
use Rattle.std.proofs.Math.Nat.{min-le_right}
use Rattle.cbl_base.specs.Counts.{count_of}
use Rattle.user_constraint.specs.UserRule.{UserRule}

abbrev pub zeros : List ℤ → ℕ
zeros xs = min (count_of (pos 0) xs) (2 ^ 40)

abbrev pub zeros_at : List ℤ → ℕ → ℕ
zeros_at xs place = min (count_of (pos 0) (slice_index_or xs place (pos 1) ∷ [])) (2 ^ 40)

abbrev pub no_zeros : UserRule
no_zeros = record {
  viol_of = zeros;
  viol_at = zeros_at;
  in_range = λ xs. min-le_right (count_of (pos 0) xs) (2 ^ 40);
  in_range_at = λ xs place. min-le_right (count_of (pos 0) (slice_index_or xs place (pos 1) ∷ [])) (2 ^ 40);
}
