-- What is no selector is given nothing.
use Rattle.run_state.specs.Views.{state_seen}
use Rattle.run_state.proofs.OtherValues.{nothing_given}
use Rattle.run_state.proofs.state.State.submit.Goals as goal

pub returns-in_default-clause-did : goal.returns-in_default-clause-did
returns-in_default-clause-did c = λ printed. nothing_given c.args.delta c.args.selector.now c.args.body.now.value.value (state_seen c.args.self.now printed) c.in_default.not-Selector
