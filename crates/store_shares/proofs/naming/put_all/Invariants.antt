use Rattle.std.proofs.Common.{take}
use Rattle.store_shares.specs.Naming.{IsPut}
use Rattle.store_shares.proofs.naming.put_all.Given as goal

abbrev pub invariant-loop-variable : goal.invariant-loop-variable
invariant-loop-variable l = IsPut l.fn.sets.items l.sets.items l.number (take l.variable-index l.variables)
