-- The move is given where one is kept; what is no selector keeps nothing.
use Rattle.std.proofs.Common.{◌∙◌, sym}
use Rattle.run_state.specs.Views.{state_seen}
use Rattle.run_state.proofs.OtherValues.{move_got, no_move, nothing_got}
use Rattle.run_state.proofs.state.State.get_move.Goals as goal

pub returns-then-keeps-clause-did : goal.returns-then-keeps-clause-did
returns-then-keeps-clause-did c = λ printed. rw c.in-Selector.is (move_got c.args.at c.in-Selector.number (state_seen c.args.self.now printed) (sym c.if-keeps.true ∙ c.keeps.ensures printed))

pub returns-else-keeps-clause-did : goal.returns-else-keeps-clause-did
returns-else-keeps-clause-did c = λ printed. rw c.in-Selector.is (no_move c.args.at c.in-Selector.number (state_seen c.args.self.now printed) (sym c.if-keeps.false ∙ c.keeps.ensures printed))

pub returns-in_default-clause-did : goal.returns-in_default-clause-did
returns-in_default-clause-did c = λ printed. nothing_got c.args.at c.args.selector.now (state_seen c.args.self.now printed) c.in_default.not-Selector
