-- The violations of a variable in a system. In a plain constraint they are the greatest of the violations at
-- the places whose term depends on the variable, also through definitions, and 0 where there is none. In `and`
-- they are the sum over the members, in `or` those of the first member with the least violations, and in `!c`
-- the violations of `!c` where `c` depends on the variable, else 0. In a system they are the total over the
-- members, each times its weight. A rule of this project.
use Rattle.std.specs.declared.alloc.Global.{Global}
use Rattle.std.specs.Prelude.{◌≡◌, ℕ, ℤ, pos, Bool, false, List, [], ◌∷◌, ◌++◌, fold, map, filter, length, Option, Some, None, Vec, Result, Ok, Err, int_lt, if◌then◌else◌}
use Rattle.std.specs.List.{list_any, range_with_len}
use Rattle.cbl_base.specs.Inputs.{number_of}
use Rattle.cbl_base.specs.NumberRule.{NumberRule}
use Rattle.cbl_base.specs.declared.faults.RunFault.{RunFault}
use Rattle.cbl_base.specs.declared.input.Input.{Input}
use Rattle.cbl_base.specs.declared.input.Input.TheVariants.{Int, Set}
use Rattle.cbl_operations.specs.Operations.Greatest.{greatest_of}
use Rattle.cbl_operations.specs.RuleOf.{rule_of}
use Rattle.cbl_operations.specs.declared.op.Op.{Op}
use Rattle.cbl_operations.specs.declared.op.Op.TheVariants.{Constraint}
use Rattle.cbl_violations.specs.Violations.AllOf.{all_of_violations}
use Rattle.cbl_violations.specs.declared.constraint.Constraint.TheVariants.{AllOf, AnyOf, NotHeld}
use Rattle.cbl_violations.specs.Violations.WeightedTotal.{weighted_total_value}
use Rattle.model_values.specs.Asked.{answer_of, stop_at}
use Rattle.model_values.specs.Delta.{value_of}
use Rattle.model_values.specs.Dependence.{marked, var_depends}
use Rattle.model_values.specs.Outcomes.{Outcome, gathered, operated}
use Rattle.model_values.specs.VarOutcomes.{outcome_of_var}
use Rattle.model_values.specs.Support.{member_in}
use Rattle.model_values.specs.declared.asked.AskStop.{AskStop}
use Rattle.term_model.specs.declared.model.Member.{Member}
use Rattle.term_model.specs.declared.model.Model.{Model}
use Rattle.term_model.specs.declared.model.Posted.{Posted}
use Rattle.model_values.specs.declared.failure.Failure.{Failure}
use Rattle.violation_shares.specs.declared.shares.ArgumentsHeld.{ArgumentsHeld}
use Rattle.violation_shares.specs.declared.shares.Combination.{Combination}
use Rattle.violation_shares.specs.declared.shares.Combination.TheVariants.{Every, One, Negation, Plain}
use Rattle.violation_shares.specs.declared.shares.Fewest.{Fewest}
use Rattle.violation_shares.specs.declared.shares.Share.{Share}
use Rattle.violation_shares.specs.declared.system_shares.WeighedHeld.{WeighedHeld}
use Rattle.term_model.specs.declared.term.Term.{Term}
use Rattle.term_model.specs.declared.term.Term.TheOpen.{Term-F}
use Rattle.term_model.specs.declared.term.Term.TheFolds.{fold-Term}
use Rattle.model_values.specs.declared.wholes.Whole.TheVariants.{System}

-- how a constraint is made of others
abbrev pub combination_of : Op → Combination
combination_of (Constraint AllOf) = Every
combination_of (Constraint AnyOf) = One
combination_of (Constraint NotHeld) = Negation
combination_of op = Plain

-- ---- what the arguments of a node give, one after another
pub record Arguments : Type 0 where
  pub depends : List Bool
  pub violations : Result (List ℤ) RunFault
  pub fewest : Option Fewest

-- the violations so far and one more, where all fit
abbrev pub gather_violation : Result (List ℤ) RunFault → Result ℤ RunFault → Result (List ℤ) RunFault
gather_violation (Ok xs) (Ok x) = Ok (xs ++ x ∷ [])
gather_violation (Ok xs) (Err fault) = Err fault
gather_violation (Err fault) violation = Err fault

-- of two members the one with fewer violations, the first where they have as many
abbrev pub fewer : Option Fewest → Fewest → Fewest
fewer (Some first) member = if int_lt member.number first.number then member else first
fewer None member = member

abbrev pub number_if : Outcome → ℤ
number_if (Some x) = number_of x
number_if None = pos 0

abbrev pub with_argument : Arguments → Share → Arguments
with_argument args share = record {
  depends = args.depends ++ share.depends ∷ [];
  violations = gather_violation args.violations share.violation;
  fewest = Some (fewer args.fewest (record { number = number_if share.outcome; violation = share.violation }));
}

abbrev pub no_arguments : Arguments
no_arguments = record { depends = []; violations = Ok []; fewest = None }

abbrev pub arguments_of : List Share → Arguments
arguments_of shares = fold with_argument no_arguments shares

-- ---- the variable's violations in a node
-- those at the places whose argument depends on the variable
abbrev pub violations_where : List Bool → (ℕ → ℤ) → ℕ → List ℤ
violations_where depends violation_at count = map violation_at (filter (marked depends) (range_with_len 0 count))

abbrev pub total_violation : Result (List ℤ) RunFault → Result ℤ RunFault
total_violation (Ok violations) = all_of_violations violations
total_violation (Err fault) = Err fault

abbrev pub violation_of_fewest : Option Fewest → Result ℤ RunFault
violation_of_fewest (Some member) = member.violation
violation_of_fewest None = Ok (pos 0)

abbrev pub one_depends : List Bool → Bool
one_depends depends = list_any (λ b. b) depends

-- those of an operation that has this value
abbrev pub violation_by : (ℕ → NumberRule) → Op → Combination → Arguments → List Input → Input → Result ℤ RunFault
violation_by users op Every args inputs value = total_violation args.violations
violation_by users op One args inputs value = violation_of_fewest args.fewest
violation_by users op Negation args inputs value = Ok (if one_depends args.depends then number_of value else pos 0)
violation_by users op Plain args inputs value = Ok (greatest_of (violations_where args.depends ((rule_of users op).violation_at inputs) (length inputs)))

-- 0 where the operation has no value: what fails is the fault of the whole system
abbrev pub violation_in : (ℕ → NumberRule) → Op → Arguments → Option (List Input) → Outcome → Result ℤ RunFault
violation_in users op args (Some inputs) (Some value) = violation_by users op (combination_of op) args inputs value
violation_in users op args (Some inputs) None = Ok (pos 0)
violation_in users op args None outcome = Ok (pos 0)

-- ---- what a term comes to, whether it depends on the variable, and the variable's violations in it
abbrev pub node_share : (ℕ → NumberRule) → Op → Option (List Input) → Arguments → Share
node_share users op values args =
    let outcome = operated users op values in
    record { outcome = outcome; depends = one_depends args.depends; violation = violation_in users op args values outcome }

-- of what isn't a node
abbrev pub leaf_share : Outcome → Bool → Share
leaf_share outcome depends = record { outcome = outcome; depends = depends; violation = Ok (pos 0) }

-- one layer of a term, with each argument's share in its place
abbrev pub share_step : (ℕ → NumberRule) → (ℕ → Outcome) → (ℕ → Bool) → Term-F Share → Share
share_step users env depends (Term-F.Const x) = leaf_share (Some (Int x)) false
share_step users env depends (Term-F.ConstSet s) = leaf_share (Some (Set s)) false
share_step users env depends (Term-F.Var v) = leaf_share (env v.index) (depends v.index)
share_step users env depends (Term-F.Node op args place) =
    node_share users op (gathered (map (λ share. share.outcome) args.items)) (arguments_of args.items)

-- the share of a term, where the variables come to these, and these of them depend on the variable
abbrev pub share_of : (ℕ → NumberRule) → (ℕ → Outcome) → (ℕ → Bool) → Term → Share
share_of users env depends = fold-Term Share (share_step users env depends)

-- ---- the total over the members of a system
pub record Weighed : Type 0 where
  pub violations : Result (List ℤ) RunFault
  pub weights : List ℤ

-- what is weighed so far, and a member's violations with its weight
abbrev pub with_weighed : Weighed → Result ℤ RunFault → ℤ → Weighed
with_weighed weighed violation weight = record { violations = gather_violation weighed.violations violation; weights = weighed.weights ++ weight ∷ [] }

abbrev pub with_member : (ℕ → NumberRule) → (ℕ → Outcome) → (ℕ → Bool) → Weighed → Option Member → Weighed
with_member users env depends weighed (Some member) = with_weighed weighed (share_of users env depends member.term).violation member.weight
with_member users env depends weighed None = weighed

abbrev pub weigh_posted : (ℕ → NumberRule) → (ℕ → Outcome) → (ℕ → Bool) → Model → ℕ → Weighed → Posted → Weighed
weigh_posted users env depends M s weighed posted = with_member users env depends weighed (member_in M (System s) posted)

abbrev pub none_weighed : Weighed
none_weighed = record { violations = Ok []; weights = [] }

abbrev pub weighed_in : (ℕ → NumberRule) → (ℕ → Outcome) → (ℕ → Bool) → Model → ℕ → List Posted → Weighed
weighed_in users env depends M s posted = fold (weigh_posted users env depends M s) none_weighed posted

abbrev pub weighted_violation : Result (List ℤ) RunFault → List ℤ → Result ℤ RunFault
weighted_violation (Ok violations) weights = weighted_total_value (length weights) (violations ++ weights)
weighted_violation (Err fault) weights = Err fault

abbrev pub violation_in_system : (ℕ → NumberRule) → Model → (ℕ → Outcome) → (ℕ → Bool) → ℕ → Result ℤ RunFault
violation_in_system users M env depends s =
    let weighed = weighed_in users env depends M s M.posted.items in
    weighted_violation weighed.violations weighed.weights

-- the system's own fault comes first, and then that of a total that doesn't fit
abbrev pub answered : Result ℤ Failure → Result ℤ RunFault → Result ℤ AskStop
answered (Ok violations) violation = answer_of violation
answered (Err f) violation = Err (stop_at f)

-- the violations of the variable `x` in the system `s`
abbrev pub variable_violations_of : (ℕ → NumberRule) → Model → List ℤ → ℕ → ℕ → Result ℤ AskStop
variable_violations_of users M a s x =
    answered (value_of users M a (System s)) (violation_in_system users M (outcome_of_var users M a) (var_depends M x) s)

-- each violation has a weight
abbrev pub HasWeightsOf : Result (List ℤ) RunFault → List ℤ → Type 0
HasWeightsOf (Ok violations) weights = length violations ≡ length weights
HasWeightsOf (Err fault) weights = Unit {0}

-- the same of what is in a `Vec`
abbrev pub listed_violations : Result (Vec ℤ Global) RunFault → Result (List ℤ) RunFault
listed_violations (Ok violations) = Ok violations.items
listed_violations (Err fault) = Err fault

abbrev pub seen_arguments : ArgumentsHeld → Arguments
seen_arguments args = record { depends = args.depends.items; violations = listed_violations args.violations; fewest = args.fewest }

abbrev pub seen_weighed : WeighedHeld → Weighed
seen_weighed weighed = record { violations = listed_violations weighed.violations; weights = weighed.weights.items }
