-- The variable in a cell of an array of variables.
use Rattle.std.proofs.Common.{sym, ◌∙◌, ap}
use Rattle.comet_meaning.specs.Outcome.{Went}
use Rattle.comet_meaning.specs.Cells.{cell}
use Rattle.comet_meaning.specs.Levels.{Target}
use Rattle.comet_meaning.specs.Writes.{moved, element_of}
use Rattle.run_state.specs.Views.{state_seen}
use Rattle.run_state.proofs.state.State.element_of.Goals as goal

pub returns-in-Variables : goal.returns-in-Variables
unfolding element_of cell
returns-in-Variables c = λ printed.
    rw c.in-Variables.is (ap (λ (t : Target). Went t (state_seen c.args.self.now printed)) (sym (c.moved.ensures ∙ ap moved (c.variable_in.ensures printed))))
