-- A program has one end from each state: there is one, and any other is the same. A rule of this project.
use Rattle.std.specs.Prelude.{◌≡◌}
use Rattle.checked_tree.specs.Tasks.{Whole}
use Rattle.comet_meaning.specs.State.{State}
use Rattle.comet_meaning.specs.Program.{Meant, run}

-- the program does this from this state on
abbrev pub Does : Whole → State → Meant → Type 0
Does p s m = run p s ≡ m

abbrev pub HasOneEnd : Whole → State → Type 0
HasOneEnd p s = (m : Meant) × Does p s m × ((n : Meant) → Does p s n → n ≡ m)
