-- The limits of what words ask for: 1 to 64 workers, a fuel of 1 to 2^62, and a size of 4 to 2,000. A rule of this project.
use Rattle.std.specs.Prelude.{◌≤◌, ◌^◌}
use Rattle.comet_words.specs.Options.{Origin, Named, Generated}
use Rattle.comet_words.specs.Asked.{Asked}

abbrev pub SizeInRange : Origin → Type 0
SizeInRange (Named name) = Unit {0}
SizeInRange (Generated size) = (4 ≤ size) × (size ≤ 2000)

pub record InRange (asked : Asked) : Type 0 where
  pub some_workers : 1 ≤ asked.workers
  pub few_workers : asked.workers ≤ 64
  pub some_fuel : 1 ≤ asked.fuel
  pub enough_fuel : asked.fuel ≤ 2 ^ 62
  pub size : SizeInRange asked.origin
