-- The numbers that a solution keeps of a solver, and what `restore` makes of it, or how it halts the run. From the language.
use Rattle.std.specs.Prelude.{ℤ, List, length, zip, nat_eq, if◌then◌else◌}
use Rattle.cbl_base.specs.declared.place.Place.{Place}
use Rattle.cbl_base.specs.declared.faults.RunFault.TheVariants.{NotClosed, WrongSolver}
use Rattle.comet_meaning.specs.Solvers.{SolverState}
use Rattle.comet_meaning.specs.Outcome.{Act, ◌>>=◌, give, unless}
use Rattle.comet_meaning.specs.Solutions.{free_numbers, free_variables}
use Rattle.run_solvers.specs.Changing.{Made, refused, moved_one}

abbrev pub kept_numbers : Place → SolverState → Act (List ℤ)
kept_numbers at m = unless m.closed at NotClosed >>= λ _. give (free_numbers m)

abbrev pub restored_one : Place → List ℤ → SolverState → Made
restored_one at values m =
    if m.closed then (if nat_eq (length values) (length (free_variables m)) then moved_one (zip (free_variables m) values) m m.waiting else refused at WrongSolver)
    else refused at NotClosed
