-- Why acts stop besides faults and want of memory. A rule of this project.
use Rattle.run_values.specs.declared.stop.Stop.{Stop}
use Rattle.run_values.specs.declared.stop.Stop.TheVariants.{Spent, Output}

-- the fuel was spent
abbrev pub IsSpent : Stop → Type 0
IsSpent (Spent place) = Unit {0}
IsSpent stop = ⊥

-- the output stopped
abbrev pub IsOutput : Stop → Type 0
IsOutput (Output stop) = Unit {0}
IsOutput stop = ⊥

-- anything but the output stopped
abbrev pub IsQuiet : Stop → Type 0
IsQuiet (Output stop) = ⊥
IsQuiet stop = Unit {0}
