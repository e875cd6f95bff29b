use Rattle.std.proofs.Common.{◌≡◌, ◌<◌, ℕ, Some, length, slice_get}
use Rattle.model_values.specs.Dependence.{mark_step}
use Rattle.violation_shares.proofs.dependence.next_marks.Given as goal

abbrev pub invariant-loop-index : goal.invariant-loop-index
invariant-loop-index g l =
    (length l.next.items ≡ l.index)
    × ((i : ℕ) → i < l.index → slice_get l.next.items i ≡ Some (mark_step l.tables.model.now l.marks l.var i))
