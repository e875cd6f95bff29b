use Rattle.std.proofs.Common.{◌≡◌}
use Rattle.cbl_operations.specs.RuleOf.{rule_of}
use Rattle.term_model.specs.Users.{user_rules}
use Rattle.violation_shares.specs.VariableViolations.{violations_where}
use Rattle.violation_shares.proofs.shares.violations_where.Given as goal

abbrev pub invariant-loop-place : goal.invariant-loop-place
invariant-loop-place g l = l.found.items ≡ violations_where l.depends ((rule_of (user_rules (g.U.UserValues.viol_of l.users) (g.U.UserValues.viol_at l.users)) l.op).violation_at l.inputs) l.place
