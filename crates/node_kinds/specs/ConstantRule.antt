-- The rule of a constant: it takes no inputs, and its value is always the same. A rule of this project.
use Rattle.std.specs.Prelude.{pos, nat_eq, length, Ok}
use Rattle.cbl_base.specs.Inputs.{kind_of}
use Rattle.cbl_base.specs.NodeLaw.{Rule, GivesOneKind, one_kind_from, kind_of-value}
use Rattle.cbl_base.specs.declared.input.Input.{Input}

abbrev pub rule_of_constant : Input → Rule
rule_of_constant value = record {
  takes = λ kinds. nat_eq (length kinds) 0;
  value = λ _. Ok value;
  violation_at = λ _ _. pos 0;
}

pub one_kind_of_constant : (value : Input) → GivesOneKind (rule_of_constant value)
one_kind_of_constant value = one_kind_from (rule_of_constant value) (kind_of value) (λ xs x e. kind_of-value (Ok value) x e)
