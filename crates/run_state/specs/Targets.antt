-- What is written, as the meaning of programs has it. A rule of this project.
use Rattle.comet_meaning.specs.Levels as levels
use Rattle.run_state.specs.declared.targets.Target.{Target}
use Rattle.run_state.specs.declared.targets.Target.TheVariants.{Nowhere, Name, Element, Moved}

abbrev pub target_seen : Target → levels.Target
target_seen Nowhere = levels.Nowhere
target_seen (Name slot) = levels.Name slot
target_seen (Element n k) = levels.Element n k
target_seen (Moved x) = levels.Moved x
