use Rattle.term_model.specs.Definitions.{IsAcyclic}
use Rattle.model_values.specs.Settling.{IsRight, IsKnownBelow}
use Rattle.term_model.specs.Users.{user_rules}
use Rattle.model_values.proofs.settling.outcomes_of.Given as goal

abbrev pub invariant-loop-round : goal.invariant-loop-round
invariant-loop-round g l =
    IsRight (user_rules (g.U.UserValues.viol_of l.tables.users.now) (g.U.UserValues.viol_at l.tables.users.now)) l.tables.model.now l.tables.assignment.now l.cells.items
    × ((acyclic : IsAcyclic l.tables.model.now) → IsKnownBelow l.tables.model.now acyclic.rank l._round l.cells.items)
