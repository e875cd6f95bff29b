-- The rule of each user's constraint, from its violations and those at its places: it takes any list of
-- numbers, and never fails. A rule of this project.
use Rattle.std.specs.Prelude.{ℕ, ℤ, pos, true, List, Ok}
use Rattle.cbl_base.specs.NumberRule.{NumberRule}

abbrev pub user_rules : (ℕ → List ℤ → ℤ) → (ℕ → List ℤ → ℕ → ℤ) → ℕ → NumberRule
user_rules viol_of viol_at number = record {
  takes = λ _. true;
  value = λ xs. Ok (viol_of number xs);
  violation_at = viol_at number;
}

-- where there are no user's constraints
abbrev pub no_users : ℕ → NumberRule
no_users = user_rules (λ _ _. pos 0) (λ _ _ _. pos 0)
