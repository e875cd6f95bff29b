use Rattle.std.proofs.Common.{rules}
use Rattle.cbl_operations.specs.RuleOf.{rule_of}
use Rattle.term_model.specs.Users.{user_rules}
use Rattle.violation_shares.proofs.ShareLaws.{place_found, place_skipped}
use Rattle.violation_shares.proofs.shares.violations_where.Goals as goal
use Rattle.violation_shares.proofs.shares.violations_where.Goals.{then-is_marked+in_ok-violation+in_ok-push, else-is_marked}

pub loop-place-preserved : goal.loop-place-preserved
loop-place-preserved g c = elim c.if-is_marked.branch [
  | then-is_marked+in_ok-violation+in_ok-push w ↦ place_found c.args.depends.now ((rule_of (user_rules (g.U.UserValues.viol_of c.args.users.now) (g.U.UserValues.viol_at c.args.users.now)) c.args.op.now).violation_at c.args.inputs.now) c.loop-place.place c.loop-place.found.items c.if-is_marked.found.items w.in_ok-violation.violation
      (search rules) c.loop-place.invariant w.in_ok-violation.ensures (search rules)
  | else-is_marked w ↦ place_skipped c.args.depends.now ((rule_of (user_rules (g.U.UserValues.viol_of c.args.users.now) (g.U.UserValues.viol_at c.args.users.now)) c.args.op.now).violation_at c.args.inputs.now) c.loop-place.place c.if-is_marked.found.items
      (search rules) (search rules)
]
