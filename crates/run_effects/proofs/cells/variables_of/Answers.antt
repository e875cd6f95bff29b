use Rattle.std.proofs.Common.{refl}
use Rattle.run_effects.proofs.Filling.{variables_of_none, variables_of_some}
use Rattle.run_effects.proofs.cells.variables_of.Goals as goal

pub returns-in-None : goal.returns-in-None
returns-in-None c = rw (variables_of_none _ _ (rw c.in-None.is at c.first.ensures.value)) refl

pub returns-in-Some : goal.returns-in-Some
returns-in-Some c = rw (variables_of_some _ _ _ (rw c.in-Some.is at c.first.ensures.value), ← c.columns_of.ensures) refl
