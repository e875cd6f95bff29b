-- The values of an operation are of its kind, and what is no constraint has the violation 0 at each place.
use Rattle.std.proofs.Common.{◌≡◌, ℕ, ℤ, pos, false, List, Result, Ok, Err, refl, ◌∙◌}
use Rattle.cbl_base.specs.Inputs.{number_kind, kind_of, numbers_of}
use Rattle.cbl_base.specs.NodeLaw.{GivesOneKind, one_kind_from, kind_if_ok, kind_of-value}
use Rattle.cbl_base.specs.NumberRule.{NumberRule, as_value}
use Rattle.cbl_base.specs.declared.input.Input.{Input}
use Rattle.cbl_base.specs.declared.faults.RunFault.{RunFault}
use Rattle.cbl_violations.specs.Constraints.{rule_of_constraint}
use Rattle.cbl_operations.specs.Binary.{rule_of_binary}
use Rattle.cbl_operations.specs.Nary.{rule_of_nary}
use Rattle.cbl_operations.specs.Operations.Element.{element}
use Rattle.cbl_operations.specs.Operations.Element2.{element2}
use Rattle.cbl_operations.specs.RuleOf.{rule_of, value_kind, is_constraint}
use Rattle.cbl_operations.specs.Unary.{rule_of_unary}
use Rattle.cbl_operations.specs.declared.nary.NaryOp.{NaryOp}
use Rattle.cbl_operations.specs.declared.nary.NaryOp.TheVariants.{Least, Greatest, Sum, Count, And, Or}
use Rattle.cbl_operations.specs.declared.op.Op.{Op}
use Rattle.cbl_operations.specs.declared.op.Op.TheVariants.{Unary, Binary, Nary, Keyed, Element, Element2, TwoSets, Card, Member, Constraint, User}

number_if_ok : (value : Result ℤ RunFault) → kind_if_ok (as_value value) ≡ number_kind
number_if_ok (Ok x) = refl
number_if_ok (Err fault) = refl

-- the value of numbers, where there is one, is a number
a_number : (value : Result ℤ RunFault) (x : Input) → as_value value ≡ Ok x → kind_of x ≡ number_kind
a_number value x e = kind_of-value (as_value value) x e ∙ number_if_ok value

pub kind_of_values : (users : ℕ → NumberRule) (op : Op) (inputs : List Input) (x : Input) → (rule_of users op).value inputs ≡ Ok x → kind_of x ≡ value_kind op
kind_of_values users (Unary op) inputs x e = a_number ((rule_of_unary op).value (numbers_of inputs)) x e
kind_of_values users (Binary op) inputs x e = a_number ((rule_of_binary op).value (numbers_of inputs)) x e
kind_of_values users (Nary op) inputs x e = a_number ((rule_of_nary op).value (numbers_of inputs)) x e
kind_of_values users (Keyed op keys) inputs x e = kind_of-value ((rule_of users (Keyed op keys)).value inputs) x e
kind_of_values users (Element low len) inputs x e = a_number ((element low len).value (numbers_of inputs)) x e
kind_of_values users (Element2 low1 len1 low2 len2) inputs x e = a_number ((element2 low1 len1 low2 len2).value (numbers_of inputs)) x e
kind_of_values users (TwoSets op) inputs x e = kind_of-value ((rule_of users (TwoSets op)).value inputs) x e
kind_of_values users Card inputs x e = kind_of-value ((rule_of users Card).value inputs) x e
kind_of_values users Member inputs x e = kind_of-value ((rule_of users Member).value inputs) x e
kind_of_values users (Constraint c) inputs x e = a_number ((rule_of_constraint c).value (numbers_of inputs)) x e
kind_of_values users (User number) inputs x e = a_number ((users number).value (numbers_of inputs)) x e

pub one_kind : (users : ℕ → NumberRule) (op : Op) → GivesOneKind (rule_of users op)
one_kind users op = one_kind_from (rule_of users op) (value_kind op) (kind_of_values users op)

not_by_nary : (op : NaryOp) (xs : List ℤ) (place : ℕ) → (rule_of_nary op).violation_at xs place ≡ pos 0
not_by_nary Least xs place = refl
not_by_nary Greatest xs place = refl
not_by_nary Sum xs place = refl
not_by_nary Count xs place = refl
not_by_nary And xs place = refl
not_by_nary Or xs place = refl

pub not_violated : (users : ℕ → NumberRule) (op : Op) (inputs : List Input) (place : ℕ) → is_constraint op ≡ false → (rule_of users op).violation_at inputs place ≡ pos 0
not_violated users (Unary op) inputs place free = refl
not_violated users (Binary op) inputs place free = refl
not_violated users (Nary op) inputs place free = not_by_nary op (numbers_of inputs) place
not_violated users (Keyed op keys) inputs place free = refl
not_violated users (Element low len) inputs place free = refl
not_violated users (Element2 low1 len1 low2 len2) inputs place free = refl
not_violated users (TwoSets op) inputs place free = refl
not_violated users Card inputs place free = refl
not_violated users Member inputs place free = refl
not_violated users (Constraint c) inputs place free = cc
not_violated users (User number) inputs place free = cc
