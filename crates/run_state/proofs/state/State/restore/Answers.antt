-- What is no solution restores nothing.
use Rattle.run_state.specs.Views.{state_seen}
use Rattle.run_state.proofs.OtherValues.{nothing_restored}
use Rattle.run_state.proofs.state.State.restore.Goals as goal

pub returns-in_default-clause-did : goal.returns-in_default-clause-did
returns-in_default-clause-did g c = let printed = g.O.Outside.told c.args.out.now in nothing_restored c.args.at c.args.solution.now (state_seen c.args.self.now printed) c.in_default.not-Solution
