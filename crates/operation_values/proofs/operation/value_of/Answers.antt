use Rattle.std.proofs.Common.{rules}
use Rattle.cbl_violations.specs.Constraints.{rule_of_constraint}
use Rattle.cbl_operations.specs.Binary.{rule_of_binary}
use Rattle.cbl_operations.specs.Nary.{rule_of_nary}
use Rattle.cbl_operations.specs.Operations.Element.{element}
use Rattle.cbl_operations.specs.Operations.Element2.{element2}
use Rattle.cbl_operations.specs.Unary.{rule_of_unary}
use Rattle.operation_values.proofs.NumberValues.{of_value}
use Rattle.operation_values.proofs.operation.value_of.Goals as goal
use Rattle.operation_values.proofs.operation.value_of.Goals.{in-Card, in-Member, in-Unary, in-Binary, in-Nary, in-Element, in-Element2, in-Constraint, in-User+in_ok-value-in-User}

pub returns : goal.returns
returns g c = elim c.match-op.branch [
  | in-Card w ↦ search rules
  | in-Member w ↦ search rules
  | in-Unary w ↦ rw w.in-Unary.is (of_value (rule_of_unary w.in-Unary.op).value c.args.inputs.now c.in_ok-xs.xs.items c.match-op.number _ (search rules) (search rules) (search rules))
  | in-Binary w ↦ rw w.in-Binary.is (of_value (rule_of_binary w.in-Binary.op).value c.args.inputs.now c.in_ok-xs.xs.items c.match-op.number _ (search rules) (search rules) (search rules))
  | in-Nary w ↦ rw w.in-Nary.is (of_value (rule_of_nary w.in-Nary.op).value c.args.inputs.now c.in_ok-xs.xs.items c.match-op.number _ (search rules) (search rules) (search rules))
  | in-Element w ↦ rw w.in-Element.is (of_value (element w.in-Element.low w.in-Element.len).value c.args.inputs.now c.in_ok-xs.xs.items c.match-op.number _ (search rules) (search rules) (search rules))
  | in-Element2 w ↦ rw w.in-Element2.is (of_value (element2 w.in-Element2.low1 w.in-Element2.len1 w.in-Element2.low2 w.in-Element2.len2).value c.args.inputs.now c.in_ok-xs.xs.items c.match-op.number _ (search rules) (search rules) (search rules))
  | in-Constraint w ↦ rw w.in-Constraint.is (of_value (rule_of_constraint w.in-Constraint.constraint).value c.args.inputs.now c.in_ok-xs.xs.items c.match-op.number _ (search rules) (search rules) (search rules))
  | in-User+in_ok-value-in-User w ↦ search rules
]
