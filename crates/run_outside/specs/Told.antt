-- What a run has beside its names: what it printed, its solvers, and the users' constraints. A rule of this project.
use Rattle.std.specs.Prelude.{ℕ, List, []}
use Rattle.run_solvers.specs.OfCometMeaning.Solvers.{SolverState}
use Rattle.run_solvers.specs.OfCometMeaning.State.{State}
use Rattle.run_solvers.specs.OfCometMeaning.Users.{User}

pub record Told : Type 0 where
  pub printed : List ℕ
  pub solvers : List SolverState
  -- all that were handed in, in their order
  pub users : List User

abbrev pub told_of : List ℕ → List SolverState → List User → Told
told_of printed solvers users = record { printed = printed; solvers = solvers; users = users }

-- a state with this beside it
abbrev pub beside : Told → State → State
beside t s = record s { solvers = t.solvers; users = t.users; printed = t.printed }

-- the same with other bytes printed
abbrev pub with_printed : List ℕ → Told → Told
with_printed bytes t = record { printed = bytes; solvers = t.solvers; users = t.users }

-- nothing was printed, there are no solvers, and these users' constraints were handed in
abbrev pub begun_with : List User → Told
begun_with users = record { printed = []; solvers = []; users = users }

abbrev pub nothing_told : Told
nothing_told = begun_with []
