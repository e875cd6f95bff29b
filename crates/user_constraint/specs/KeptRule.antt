-- What is kept of the rule of a user's constraint: of each list of 64-bit numbers, fewer than 2^64 of them, what the rule
-- tells, and of any other list nothing. Finitely many lists determine it, and so it has a code. A rule of this project.
use Rattle.std.specs.Prelude.{◌≡◌, ℕ, zero, suc, ℤ, pos, negsuc, ◌^◌, Bool, true, false, ◌&&◌, List, [], ◌∷◌, map, length, slice_index_or, Ok}
use Rattle.std.specs.List.{list_all, range_with_len}
use Rattle.cbl_base.specs.NumberRule.{NumberRule}
use Rattle.user_constraint.specs.UserRule.{UserRule}

-- ---- lists of 64-bit numbers
-- whether a number is below another
abbrev pub is_below : ℕ → ℕ → Bool
is_below k zero = false
is_below zero (suc n) = true
is_below (suc k) (suc n) = is_below k n

-- how far a number lies from 0, or from -1 below it
abbrev pub size_of : ℤ → ℕ
size_of (pos n) = n
size_of (negsuc n) = n

-- 64-bit numbers are those of a size below this
unfoldable pub half : ℕ
half = 2 ^ 63

-- lists are shorter than this
unfoldable pub most : ℕ
most = 2 ^ 64

-- a list of fewer than so many numbers of a size below
abbrev pub is_list_of : ℕ → ℕ → List ℤ → Bool
is_list_of size count xs = list_all (λ x. is_below (size_of x) size) xs && is_below (length xs) count

abbrev pub is_kept : List ℤ → Bool
is_kept xs = is_list_of half most xs

-- ---- the rule
pub record KeptRule : Type 0 where
  -- the violations of a list of numbers, and then those at each place
  pub told : List ℤ → List ℕ
  pub nothing : (xs : List ℤ) → is_kept xs ≡ false → told xs ≡ []

abbrev pub viol_of : KeptRule → List ℤ → ℕ
viol_of rule xs = slice_index_or (rule.told xs) 0 0

abbrev pub viol_at : KeptRule → List ℤ → ℕ → ℕ
viol_at rule xs place = slice_index_or (rule.told xs) (suc place) 0

-- what a rule tells of a list
abbrev pub told_of : UserRule → List ℤ → List ℕ
told_of rule xs = rule.viol_of xs ∷ map (rule.viol_at xs) (range_with_len 0 (length xs))

abbrev pub only : Bool → List ℕ → List ℕ
only true told = told
only false told = []

pub kept_nothing : (b : Bool) (told : List ℕ) → b ≡ false → only b told ≡ []
kept_nothing b told e = λ i. only (e i) told

abbrev pub kept : UserRule → KeptRule
kept rule = record { told = λ xs. only (is_kept xs) (told_of rule xs); nothing = λ xs e. kept_nothing (is_kept xs) (told_of rule xs) e }

-- the rule that tells nothing
pub same_list : (xs : List ℕ) → xs ≡ xs
same_list xs = λ i. xs

abbrev pub no_rule : KeptRule
no_rule = record { told = λ _. []; nothing = λ _ _. same_list [] }

-- ---- as the rule of a node over numbers, which takes any number of them and never fails
abbrev pub rule_of_kept : KeptRule → NumberRule
rule_of_kept rule = record {
  takes = λ _. true;
  value = λ xs. Ok (pos (viol_of rule xs));
  violation_at = λ xs place. pos (viol_at rule xs place);
}
