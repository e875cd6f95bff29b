-- What is kept of the rule of a node: what it tells of lists of 64-bit numbers, as far as that is numbers from 0 on. The
-- node of a user's constraint has just the rule that is kept of it. A rule of this project.
use Rattle.std.specs.Prelude.{◌≡◌, ℕ, ℤ, pos, negsuc, List, ◌∷◌, map, length, Result, Ok, Err}
use Rattle.std.specs.List.{range_with_len}
use Rattle.cbl_base.specs.Inputs.{as_inputs}
use Rattle.cbl_base.specs.NodeLaw.{Rule}
use Rattle.cbl_base.specs.NumberRule.{rule_of_numbers}
use Rattle.cbl_base.specs.declared.faults.RunFault.{RunFault}
use Rattle.cbl_base.specs.declared.input.Input.{Input}
use Rattle.cbl_base.specs.declared.input.Input.TheVariants.{Int, Set}
use Rattle.user_constraint.specs.KeptRule.{KeptRule, is_kept, kept_nothing, only, rule_of_kept}

-- a number from 0 on, 0 for any other, and the same of what a rule tells
abbrev pub nat_of : ℤ → ℕ
nat_of (pos n) = n
nat_of (negsuc n) = 0

abbrev pub number_told : Result Input RunFault → ℕ
number_told (Ok (Int x)) = nat_of x
number_told (Ok (Set s)) = 0
number_told (Err fault) = 0

-- what a rule tells of a list of numbers
abbrev pub told_by : Rule → List ℤ → List ℕ
told_by rule xs = number_told (rule.value (as_inputs xs)) ∷ map (λ place. nat_of (rule.violation_at (as_inputs xs) place)) (range_with_len 0 (length xs))

unfoldable pub kept_of : Rule → KeptRule
kept_of rule = record { told = λ xs. only (is_kept xs) (told_by rule xs); nothing = λ xs e. kept_nothing (is_kept xs) (told_by rule xs) e }

-- the rule of the node of a user's constraint
abbrev pub user_node_rule : KeptRule → Rule
user_node_rule rule = rule_of_numbers (rule_of_kept rule)

-- a node's rule is one of a user's constraint
unfoldable pub IsUserRule : Rule → Type 0
IsUserRule rule = rule ≡ user_node_rule (kept_of rule)
