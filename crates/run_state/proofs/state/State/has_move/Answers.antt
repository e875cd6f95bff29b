-- Whether one is kept; what is no selector keeps nothing.
use Rattle.run_state.specs.Views.{state_seen}
use Rattle.run_state.proofs.OtherValues.{move_kept, nothing_kept}
use Rattle.run_state.proofs.state.State.has_move.Goals as goal

pub returns-in-Selector : goal.returns-in-Selector
returns-in-Selector c = λ printed. rw c.in-Selector.is (move_kept c.in-Selector.number (state_seen c.args.self.now printed) c.keeps.result (c.keeps.ensures printed))

pub returns-in_default : goal.returns-in_default
returns-in_default c = λ printed. nothing_kept c.args.selector.now (state_seen c.args.self.now printed) c.in_default.not-Selector
