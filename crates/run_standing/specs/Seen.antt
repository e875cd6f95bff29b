-- What stands of a run, as the meaning of programs has it, beside what was printed. A rule of this project.
use Rattle.std.specs.Prelude.{ℕ, List, []}
use Rattle.run_state.specs.OfCometMeaning.State.{State}
use Rattle.run_standing.specs.declared.standing.Standing.{Standing}
use Rattle.run_state.specs.Copies.{without_data}
use Rattle.run_state.specs.Views.{state_seen}

abbrev pub standing_seen : {U : Type 0} → Standing U → List ℕ → State
standing_seen x printed = state_seen x.state (record { printed = printed; solvers = x.solvers; users = x.users.items })

-- a state with this fuel, and with nothing that no pure expression sees: no data, no users' constraints, and another search
abbrev pub plain_with : ℕ → State → State
plain_with fuel s = record (without_data fuel s) { users = [] }
