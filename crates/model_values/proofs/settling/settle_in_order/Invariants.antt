use Rattle.model_values.specs.Settling.{IsRight}
use Rattle.term_model.specs.Users.{user_rules}
use Rattle.model_values.proofs.settling.settle_in_order.Given as goal

abbrev pub invariant-loop-index : goal.invariant-loop-index
invariant-loop-index g l = IsRight (user_rules (g.U.UserValues.viol_of l.tables.users.now) (g.U.UserValues.viol_at l.tables.users.now)) l.tables.model.now l.tables.assignment.now l.cells.items
