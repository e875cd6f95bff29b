use Rattle.std.proofs.Common.{◌≡◌, ℕ, false, length}
use Rattle.store_shares.specs.Settled.{is_known}
use Rattle.store_shares.proofs.closing.none_known.Given as goal

abbrev pub invariant-loop-variable : goal.invariant-loop-variable
invariant-loop-variable l = (length l.sets.items ≡ l._variable) × ((x : ℕ) → is_known l.sets.items x ≡ false)
