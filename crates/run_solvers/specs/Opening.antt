-- The beginning of a `with`: whether it is the outermost one on its solver, which makes what is assigned in it wait. From
-- the language.
use Rattle.std.specs.Prelude.{ℕ, Bool, true, false, Some, is_some, if◌then◌else◌}
use Rattle.cbl_base.specs.declared.place.Place.{Place}
use Rattle.cbl_base.specs.declared.faults.RunFault.TheVariants.{NotClosed}
use Rattle.comet_meaning.specs.Outcome.{Act, ◌>>=◌, give, unless}
use Rattle.comet_meaning.specs.Parts.{solver_at}
use Rattle.comet_meaning.specs.Models.{put_solver}
use Rattle.comet_meaning.specs.Solvers.{SolverState}

abbrev pub opening : ℕ → SolverState → Act Bool
opening k m =
    if is_some m.waiting then give false
    else (put_solver k (record m { waiting = Some m.assignment }) >>= λ _. give true)

abbrev pub opened_in : Place → ℕ → SolverState → Act Bool
opened_in at k m = unless m.closed at NotClosed >>= λ _. opening k m

abbrev pub opened : Place → ℕ → Act Bool
opened at k = λ s. opened_in at k (solver_at s k) s
