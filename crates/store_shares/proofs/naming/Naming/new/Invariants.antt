use Rattle.std.proofs.Common.{◌≡◌, length}
use Rattle.store_shares.proofs.NamingLaws.{AreEmpty}
use Rattle.store_shares.proofs.naming.Naming.new.Given as goal

abbrev pub invariant-loop-variable : goal.invariant-loop-variable
invariant-loop-variable l = (length l.sets.items ≡ l._variable) × AreEmpty l.sets.items
