use Rattle.std.proofs.Common.{refl}
use Rattle.run_effects.proofs.Filling.{array_of_none, array_of_some}
use Rattle.run_effects.proofs.cells.array_of.Goals as goal

pub returns-in-None : goal.returns-in-None
returns-in-None c = rw (array_of_none _ _ (rw c.in-None.is at c.first.ensures.value)) c.row.ensures

pub returns-in-Some : goal.returns-in-Some
returns-in-Some c = rw (array_of_some _ _ _ (rw c.in-Some.is at c.first.ensures.value), ← c.columns_of.ensures) refl
