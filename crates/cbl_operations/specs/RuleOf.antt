-- The rule of each operation and constraint, where the users' constraints have these rules by their
-- numbers; the kind of all its values, and whether it is a constraint. A rule of this project.
use Rattle.std.specs.Prelude.{ℕ, Bool, true, false}
use Rattle.cbl_base.specs.Inputs.{InputKind, number_kind, set_kind}
use Rattle.cbl_base.specs.NodeLaw.{Rule}
use Rattle.cbl_base.specs.NumberRule.{NumberRule, rule_of_numbers}
use Rattle.cbl_violations.specs.Constraints.{rule_of_constraint}
use Rattle.cbl_operations.specs.Binary.{rule_of_binary}
use Rattle.cbl_operations.specs.Keyed.{rule_of_keyed}
use Rattle.cbl_operations.specs.Nary.{rule_of_nary}
use Rattle.cbl_operations.specs.Operations.Card.{card}
use Rattle.cbl_operations.specs.Operations.Element.{element}
use Rattle.cbl_operations.specs.Operations.Element2.{element2}
use Rattle.cbl_operations.specs.Operations.Member.{member}
use Rattle.cbl_operations.specs.TwoSets.{rule_of_sets}
use Rattle.cbl_operations.specs.Unary.{rule_of_unary}
use Rattle.cbl_operations.specs.declared.op.Op.{Op}
use Rattle.cbl_operations.specs.declared.op.Op.TheVariants.{Unary, Binary, Nary, Keyed, Element, Element2, TwoSets, Card, Member, Constraint, User}

abbrev pub rule_of : (ℕ → NumberRule) → Op → Rule
rule_of users (Unary op) = rule_of_numbers (rule_of_unary op)
rule_of users (Binary op) = rule_of_numbers (rule_of_binary op)
rule_of users (Nary op) = rule_of_numbers (rule_of_nary op)
rule_of users (Keyed op keys) = rule_of_keyed op keys
rule_of users (Element low len) = rule_of_numbers (element low len)
rule_of users (Element2 low1 len1 low2 len2) = rule_of_numbers (element2 low1 len1 low2 len2)
rule_of users (TwoSets op) = rule_of_sets op
rule_of users Card = card
rule_of users Member = member
rule_of users (Constraint constraint) = rule_of_numbers (rule_of_constraint constraint)
rule_of users (User number) = rule_of_numbers (users number)

abbrev pub value_kind : Op → InputKind
value_kind (Keyed op keys) = set_kind
value_kind (TwoSets op) = set_kind
value_kind op = number_kind

abbrev pub is_constraint : Op → Bool
is_constraint (Constraint constraint) = true
is_constraint (User number) = true
is_constraint op = false
