-- What is no distribution gives nothing.
use Rattle.run_state.specs.Views.{state_seen}
use Rattle.run_state.proofs.OtherValues.{nothing_drawn}
use Rattle.run_state.proofs.state.State.draw.Goals as goal

pub returns-in_default-clause-did : goal.returns-in_default-clause-did
returns-in_default-clause-did c = λ printed. nothing_drawn c.args.at c.args.distribution.now (state_seen c.args.self.now printed) c.in_default.not-Distribution
