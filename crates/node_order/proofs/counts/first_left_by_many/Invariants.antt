use Rattle.std.proofs.Common.{◌≡◌, ℤ, List}
use Rattle.node_base.specs.KeptCounts.{times_kept}
use Rattle.node_base.specs.declared.number_change.NumberChange.{NumberChange}
use Rattle.node_order.specs.Lowering.{times_old, first_left}
use Rattle.node_order.proofs.counts.first_left_by_many.Given as goal

abbrev pub invariant-loop-number : goal.invariant-loop-number
invariant-loop-number l = (changes : List NumberChange) → ((v : ℤ) → times_kept l.taken v ≡ times_old v changes) → first_left changes l.number-iterator ≡ first_left changes l.counts.by_number.entries
