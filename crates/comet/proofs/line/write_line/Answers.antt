use Rattle.std.proofs.Common.{sym}
use Rattle.comet.proofs.line.write_line.Goals as goal

pub returns-in-IllTyped-clause-ok : goal.returns-in-IllTyped-clause-ok
returns-in-IllTyped-clause-ok g c = rw c.in-IllTyped.is c.write_type.ensures.ok

pub returns-in-IllTyped-clause-err : goal.returns-in-IllTyped-clause-err
returns-in-IllTyped-clause-err g c = rw c.in-IllTyped.is c.write_type.ensures.err

pub returns-in-Spent-clause-err : goal.returns-in-Spent-clause-err
returns-in-Spent-clause-err g c = rw c.in-Spent.is c.write_placed-in-Spent.ensures.err

pub returns-in-Cyclic-clause-ok : goal.returns-in-Cyclic-clause-ok
returns-in-Cyclic-clause-ok g c = rw (c.in-Cyclic.is, sym c.as_slice.ensures) c.write_cycle.ensures.ok

pub returns-in-Cyclic-clause-err : goal.returns-in-Cyclic-clause-err
returns-in-Cyclic-clause-err g c = rw (c.in-Cyclic.is, sym c.as_slice.ensures) c.write_cycle.ensures.err
