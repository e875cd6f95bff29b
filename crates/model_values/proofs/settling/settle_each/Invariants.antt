use Rattle.std.proofs.Common.{◌≡◌, ◌<◌, ℕ, true}
use Rattle.term_model.specs.Definitions.{DependsOn}
use Rattle.model_values.specs.Settling.{is_known, IsRight, KeepsKnown}
use Rattle.term_model.specs.Users.{user_rules}
use Rattle.model_values.proofs.settling.settle_each.Given as goal

abbrev pub invariant-loop-index : goal.invariant-loop-index
invariant-loop-index g l =
    IsRight (user_rules (g.U.UserValues.viol_of l.tables.users.now) (g.U.UserValues.viol_at l.tables.users.now)) l.tables.model.now l.tables.assignment.now l.cells.items
    × KeepsKnown l.fn.cells.items l.cells.items
    × ((i : ℕ) → i < l.index → ((d : ℕ) → DependsOn l.tables.model.now i d → is_known l.fn.cells.items d ≡ true) → is_known l.cells.items i ≡ true)
