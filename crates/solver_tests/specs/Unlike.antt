-- The rule of the tests' constraint: each number that isn't the first is one too many.
use Rattle.std.specs.Prelude.{ℕ, ℤ, pos, ◌^◌, Bool, not, List, [], ◌∷◌, slice_index_or, min, count_by}
use Rattle.std.specs.Ordering.{int_eq}
use Rattle.std.proofs.Math.Nat.{min-le_right}
use Rattle.user_constraint.specs.UserRule.{UserRule}

abbrev pub differs : ℤ → ℤ → Bool
differs first x = not (int_eq x first)

abbrev pub first_of : List ℤ → ℤ
first_of xs = slice_index_or xs 0 (pos 0)

-- how many numbers aren't this one
abbrev pub unlike_in : ℤ → List ℤ → ℕ
unlike_in first xs = min (count_by (differs first) xs) (2 ^ 40)

abbrev pub unlike : UserRule
unlike = record {
  viol_of = λ xs. unlike_in (first_of xs) xs;
  viol_at = λ xs place. unlike_in (first_of xs) (slice_index_or xs place (pos 0) ∷ []);
  in_range = λ xs. min-le_right (count_by (differs (first_of xs)) xs) (2 ^ 40);
  in_range_at = λ xs place. min-le_right (count_by (differs (first_of xs)) (slice_index_or xs place (pos 0) ∷ [])) (2 ^ 40);
}
