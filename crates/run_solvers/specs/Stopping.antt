-- Why a change of a solver stops: with a fault, at a cycle of definitions, or where there is no memory. A rule of this
-- project.
use Rattle.run_values.specs.declared.stop.Stop.{Stop}
use Rattle.run_values.specs.declared.stop.Stop.TheVariants.{Fault, Cyclic, NoMemory}

abbrev pub IsEndOrMemory : Stop → Type 0
IsEndOrMemory (Fault place f) = Unit {0}
IsEndOrMemory (Cyclic place names) = Unit {0}
IsEndOrMemory NoMemory = Unit {0}
IsEndOrMemory stop = ⊥
