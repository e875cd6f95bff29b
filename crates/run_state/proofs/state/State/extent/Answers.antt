-- The bounds of either array.
use Rattle.std.proofs.Common.{sym, ◌∙◌}
use Rattle.run_state.specs.Views.{state_seen}
use Rattle.run_state.proofs.EitherArray.{other_extent}
use Rattle.run_state.proofs.state.State.extent.Goals as goal

pub returns-in-Variables : goal.returns-in-Variables
returns-in-Variables c = λ printed. rw c.in-Variables.is (c.variables_extent.ensures printed)

pub returns-in_default : goal.returns-in_default
returns-in_default c = λ printed. c.numbers_extent.ensures printed ∙ sym (other_extent (state_seen c.args.self.now printed) c.args.array.now c.in_default.not-Variables)
