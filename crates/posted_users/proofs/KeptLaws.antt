-- What the node of a user's constraint tells is what is kept of its rule, and what one of several tells.
use Rattle.std.proofs.Common.{set, ◌≡◌, ℕ, ℤ, zero, suc, pos, negsuc, ◌+◌, ◌<◌, true, false, Bool, ◌&&◌, List, [], ◌∷◌, map, length, get_or, refl, sym, ap, ◌∙◌, subst, arith}
use Rattle.std.specs.Prelude.{Option, Some, None, not, Result, Ok, Err, IfOk, IsTrue, IsOk, slice_get, unwrap_or}
use Rattle.std.specs.List.{list_all, range_with_len}
use Rattle.cbl_base.specs.Changes.{after_changes}
use Rattle.cbl_base.specs.Inputs.{InputKind, all_numbers, as_inputs, kind_of, kinds_of, numbers_of}
use Rattle.cbl_base.specs.NodeLaw.{IsAnswer, Rule}
use Rattle.cbl_base.specs.declared.faults.NoMemory.{NoMemory}
use Rattle.cbl_base.specs.declared.faults.NodeFault.{NodeFault}
use Rattle.cbl_base.specs.declared.faults.RunFault.{RunFault}
use Rattle.cbl_base.specs.declared.input.Change.{Change}
use Rattle.cbl_base.specs.declared.input.Input.{Input}
use Rattle.cbl_base.specs.declared.input.Input.TheVariants.{Int, Set}
use Rattle.posted_users.specs.KeptCode.{told_alike}
use Rattle.posted_users.specs.KeptOf.{IsUserRule, kept_of, nat_of, number_told, told_by, user_node_rule}
use Rattle.posted_users.specs.KeptRule.{rule_numbered, viol_at_by, viol_by}
use Rattle.posted_users.specs.PostedState.{PostedState, rules_of}
use Rattle.user_constraint.specs.KeptRule.{KeptRule, is_kept, kept, only, told_of, viol_at, viol_of}
use Rattle.user_constraint.specs.UserRule.{UserRule}
use Rattle.user_constraint.proofs.KeptLaws.{kept_at, kept_value}

-- ---- numbers as inputs
pub same_numbers : (xs : List ℤ) → numbers_of (as_inputs xs) ≡ xs
same_numbers [] = refl
same_numbers (x ∷ xs) = ap (λ ys. x ∷ ys) (same_numbers xs)

all_are : (xs : List ℤ) → all_numbers (kinds_of (as_inputs xs)) ≡ true
all_are [] = refl
all_are (x ∷ xs) = all_are xs

pub inputs_length : (xs : List ℤ) → length (as_inputs xs) ≡ length xs
inputs_length [] = refl
inputs_length (x ∷ xs) = ap suc (inputs_length xs)

-- ---- the rule of the node of a user's constraint
at_range : (f g : ℕ → ℕ) (a n : ℕ) → ((i : ℕ) → i < a + n → f i ≡ g i) → map f (range_with_len a n) ≡ map g (range_with_len a n)
at_range f g a zero same = refl
at_range f g a (suc n) same =
    ap (λ x. x ∷ map f (range_with_len (a + 1) n)) (same a (omega arith)) ∙ ap (λ xs. g a ∷ xs) (at_range f g (a + 1) n (λ i lt. same i (omega (arith, lt))))

module _ (rule : UserRule) (xs : List ℤ) where
  same_told : is_kept xs ≡ true → told_by (user_node_rule (kept rule)) xs ≡ told_of rule xs
  same_told e =
      let first : viol_of (kept rule) (numbers_of (as_inputs xs)) ≡ rule.viol_of xs = ap (viol_of (kept rule)) (same_numbers xs) ∙ kept_value rule xs e in
      let rest = at_range (λ place. viol_at (kept rule) (numbers_of (as_inputs xs)) place) (rule.viol_at xs) 0 (length xs)
      (λ place lt. ap (λ ys. viol_at (kept rule) ys place) (same_numbers xs) ∙ kept_at rule xs place e (omega (arith, lt))) in
      ap (λ n. n ∷ map (λ place. viol_at (kept rule) (numbers_of (as_inputs xs)) place) (range_with_len 0 (length xs))) first ∙ ap (λ ns. rule.viol_of xs ∷ ns) rest

  by : (b : Bool) → is_kept xs ≡ b → only (is_kept xs) (told_by (user_node_rule (kept rule)) xs) ≡ only (is_kept xs) (told_of rule xs)
  by true e = ap (only (is_kept xs)) (same_told e)
  by false e = ap (λ b. only b (told_by (user_node_rule (kept rule)) xs)) e ∙ sym (ap (λ b. only b (told_of rule xs)) e)

  all_told : only (is_kept xs) (told_by (user_node_rule (kept rule)) xs) ≡ only (is_kept xs) (told_of rule xs)
  all_told = by (is_kept xs) refl

pub kept_again : (rule : UserRule) → kept_of (user_node_rule (kept rule)) ≡ kept rule
unfolding kept_of
kept_again rule = told_alike (kept_of (user_node_rule (kept rule))) (kept rule) (λ xs. all_told rule xs)

-- so it is of a node that has this rule
pub kept_of_node : (rule : UserRule) (node : Rule) → node ≡ user_node_rule (kept rule) → kept_of node ≡ kept rule
kept_of_node rule node e = ap kept_of e ∙ kept_again rule

pub is_user_node : (rule : UserRule) (node : Rule) → node ≡ user_node_rule (kept rule) → IsUserRule node
unfolding IsUserRule
is_user_node rule node e = e ∙ ap user_node_rule (sym (kept_of_node rule node e))

pub same_user_rule : (old new : Rule) → new ≡ old → IsUserRule old → IsUserRule new
same_user_rule old new e is = subst IsUserRule (sym e) is

pub no_other : (b : Bool) → false ≡ not b → b ≡ true
no_other true e = refl
no_other false e = e

-- ---- what it takes and tells
pub takes_numbers : (rule : Rule) (xs : List ℤ) → IsUserRule rule → IsTrue (rule.takes (kinds_of (as_inputs xs)))
unfolding IsUserRule
takes_numbers rule xs is = subst (λ (r : Rule). IsTrue (r.takes (kinds_of (as_inputs xs)))) (sym is) (ap (λ b. b && true) (all_are xs))

pub has_value : (rule : Rule) (inputs : List Input) → IsUserRule rule → IsOk (rule.value inputs)
unfolding IsUserRule
has_value rule inputs is = subst (λ (r : Rule). IsOk (r.value inputs)) (sym is) refl

-- what is told of a value
as_number : Result Input RunFault → ℤ
as_number (Ok (Int x)) = x
as_number (Ok (Set s)) = pos 0
as_number (Err fault) = pos 0

value_is : (value : Result Input RunFault) (answer : Result Input NodeFault) (v : ℤ) → IsAnswer value answer → answer ≡ Ok (Int v) → value ≡ Ok (Int v)
value_is value answer v is e = subst (IsAnswer value) e is

told_is : (rule : Rule) (after : List Input) (list : List ℤ) (answer : Result Input NodeFault) (v : ℤ) → IsUserRule rule → after ≡ as_inputs list → IsAnswer (rule.value after) answer → answer ≡ Ok (Int v) → v ≡ pos (viol_of (kept_of rule) list)
unfolding IsUserRule as_number
told_is rule after list answer v is same told e =
    let value = value_is (rule.value after) answer v told e in
    sym (ap as_number value) ∙ ap (λ (r : Rule). as_number (r.value after)) is ∙ ap (λ xs. pos (viol_of (kept_of rule) (numbers_of xs))) same ∙ ap (λ xs. pos (viol_of (kept_of rule) xs)) (same_numbers list)

pub value_told : (r : Result ℤ NoMemory) (rule : Rule) (held : List Input) (numbers at : List ℤ) (changes seen : List Change) (list : List ℤ) (answer : Result Input NodeFault) (one : PostedState) →
    IfOk r (λ v. answer ≡ Ok (Int v)) → IsUserRule rule → held ≡ as_inputs numbers → at ≡ numbers → seen ≡ changes → after_changes (as_inputs at) changes ≡ as_inputs list →
    IsAnswer (rule.value (after_changes held seen)) answer → record { held = numbers; rule = kept_of rule } ≡ one → IfOk r (λ v. v ≡ pos (viol_of one.rule list))
value_told (Err e) rule held numbers at changes seen list answer one told is holds copied same after asked view = told
value_told (Ok v) rule held numbers at changes seen list answer one told is holds copied same after asked view =
    let list_is : after_changes held seen ≡ as_inputs list = ap (after_changes held) same ∙ ap (λ xs. after_changes xs changes) (holds ∙ ap as_inputs (sym copied)) ∙ after in
    told_is rule (after_changes held seen) list answer v is list_is asked told ∙ ap (λ (p : PostedState). pos (viol_of p.rule list)) view

pub place_told : (rule : Rule) (held : List Input) (numbers list : List ℤ) (at place : ℕ) (v : ℤ) (one : PostedState) → IsUserRule rule → held ≡ as_inputs numbers → numbers ≡ list → at ≡ place → v ≡ rule.violation_at held at →
    record { held = numbers; rule = kept_of rule } ≡ one → v ≡ pos (viol_at one.rule list place)
unfolding IsUserRule
place_told rule held numbers list at place v one is holds same there told view =
    told ∙ ap (rule.violation_at held) there ∙ ap (λ (r : Rule). r.violation_at held place) is ∙ ap (λ xs. pos (viol_at (kept_of rule) (numbers_of xs) place)) (holds ∙ ap as_inputs same)
    ∙ ap (λ xs. pos (viol_at (kept_of rule) xs place)) (same_numbers list) ∙ ap (λ (p : PostedState). pos (viol_at p.rule list place)) view

-- ---- what one of several tells
get_there : (xs : List PostedState) (i : ℕ) (d : PostedState) → i < length xs → slice_get xs i ≡ Some (get_or xs i d)
get_there [] i d lt = absurd (omega (arith, lt))
get_there (x ∷ xs) zero d lt = refl
get_there (x ∷ xs) (suc i) d lt = get_there xs i d (omega (arith, lt))

pub one_there : (seen xs : List PostedState) (i : ℕ) (one : PostedState) → seen ≡ xs → i < length seen → one ≡ get_or seen i one → slice_get xs i ≡ Some one
one_there seen xs i one e lt is = ap (λ ys. slice_get ys i) (sym e) ∙ get_there seen i one lt ∙ ap (λ o. Some o) (sym is)

pub rule_at : (posted : List PostedState) (number : ℕ) (one : PostedState) → slice_get posted number ≡ Some one → rule_numbered (rules_of posted) number ≡ one.rule
rule_at [] number one e = let c : None ≡ Some one = e in cc
rule_at (p ∷ ps) zero one e = ap (λ (o : Option PostedState). (unwrap_or o p).rule) e
rule_at (p ∷ ps) (suc number) one e = rule_at ps number one e

-- ---- the rules stay where one of them holds other numbers
pub rules_set : (xs : List PostedState) (i : ℕ) (d one : PostedState) → one.rule ≡ (get_or xs i d).rule → rules_of (set xs i one) ≡ rules_of xs
rules_set [] i d one e = refl
rules_set (x ∷ xs) zero d one e = ap (λ r. r ∷ rules_of xs) e
rules_set (x ∷ xs) (suc i) d one e = ap (λ rs. x.rule ∷ rs) (rules_set xs i d one e)
