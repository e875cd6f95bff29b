-- The cell of an array.
use Rattle.std.proofs.Common.{sym, ap}
use Rattle.comet_meaning.specs.Values.{Value}
use Rattle.comet_meaning.specs.Outcome.{Went}
use Rattle.comet_meaning.specs.Cells.{cells}
use Rattle.comet_meaning.specs.Writes.{old_value}
use Rattle.run_state.specs.Views.{state_seen}
use Rattle.run_state.proofs.state.State.old_value.Goals as goal

pub returns-in-Element-clause-did : goal.returns-in-Element-clause-did
unfolding old_value cells
returns-in-Element-clause-did c = λ printed. rw c.in-Element.is (ap (λ (v : Value). Went v (state_seen c.args.self.now printed)) (sym (c.element.ensures printed)))
