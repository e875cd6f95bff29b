-- Which operations are users' constraints, and what the rules of these are where one is handed in. A rule of
-- this project.
use Rattle.std.specs.Prelude.{ℕ, pos, Bool, true, false, Option, Some, None, Ok}
use Rattle.cbl_base.specs.NumberRule.{NumberRule}
use Rattle.cbl_operations.specs.declared.op.Op.{Op}
use Rattle.cbl_operations.specs.declared.op.Op.TheVariants.{User}
use Rattle.user_constraint.specs.KeptRule.{kept, rule_of_kept}
use Rattle.user_constraint.specs.UserRule.{UserRule}

-- whether it is a user's constraint
abbrev pub is_user : Op → Bool
is_user (User number) = true
is_user op = false

-- a rule that takes nothing
abbrev pub no_rule : NumberRule
no_rule = record {
  takes = λ _. false;
  value = λ _. Ok (pos 0);
  violation_at = λ _ _. pos 0;
}

-- every user's constraint is the one that is handed in, by what is kept of its rule
abbrev pub users_of : Option UserRule → ℕ → NumberRule
users_of (Some rule) number = rule_of_kept (kept rule)
users_of None number = no_rule
