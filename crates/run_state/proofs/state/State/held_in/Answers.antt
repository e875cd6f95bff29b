-- What the cell of either array holds.
use Rattle.std.proofs.Common.{sym, ◌∙◌, rules}
use Rattle.std.proofs.lemmas.Int.{ints, to_z-of_z}
use Rattle.run_state.specs.Views.{state_seen}
use Rattle.run_state.proofs.EitherArray.{other_cell}
use Rattle.run_state.proofs.state.State.held_in.Goals as goal

pub returns-in-Variables : goal.returns-in-Variables
returns-in-Variables c = λ printed. rw c.in-Variables.is (c.variable_in.ensures printed)

pub returns-in_default : goal.returns-in_default
returns-in_default c = λ printed.
    let other = other_cell (state_seen c.args.self.now printed) c.args.array.now c.args.cell c.in_default.not-Variables in
    rw (other ∙ sym (c.number_at.ensures printed)) (search (rules, ints, to_z-of_z))
