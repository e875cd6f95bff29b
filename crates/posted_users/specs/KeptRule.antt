-- What is kept of the rules of the users' constraints that were posted, by their numbers in order of posting. A rule of
-- this project.
use Rattle.std.specs.Prelude.{ℕ, ℤ, pos, List, slice_get, unwrap_or}
use Rattle.cbl_base.specs.NumberRule.{NumberRule}
use Rattle.operation_values.specs.OfTermModel.Users.{user_rules}
pub use Rattle.user_constraint.specs.KeptRule.{KeptRule, is_below, is_kept, is_list_of, kept, kept_nothing, no_rule, only, rule_of_kept, size_of, told_of, viol_at, viol_of}
unfoldable pub use Rattle.user_constraint.specs.KeptRule.{half, most}

-- the rule with a number; beyond them one that is always 0
abbrev pub rule_numbered : List KeptRule → ℕ → KeptRule
rule_numbered rules number = unwrap_or (slice_get rules number) no_rule

abbrev pub viol_by : List KeptRule → ℕ → List ℤ → ℤ
viol_by rules number xs = pos (viol_of (rule_numbered rules number) xs)

abbrev pub viol_at_by : List KeptRule → ℕ → List ℤ → ℕ → ℤ
viol_at_by rules number xs place = pos (viol_at (rule_numbered rules number) xs place)

-- and as the rules of nodes over numbers
abbrev pub users_of : List KeptRule → ℕ → NumberRule
users_of rules = user_rules (viol_by rules) (viol_at_by rules)
