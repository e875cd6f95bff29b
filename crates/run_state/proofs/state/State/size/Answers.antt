-- How many cells either array has.
use Rattle.std.proofs.Common.{length, sym, ◌∙◌, ap, rules, arith}
use Rattle.run_state.specs.Views.{state_seen}
use Rattle.run_state.proofs.EitherArray.{other_size}
use Rattle.run_state.proofs.state.State.size.Goals as goal

pub returns-in-Variables-clause-size : goal.returns-in-Variables-clause-size
returns-in-Variables-clause-size c = λ printed. rw c.in-Variables.is (ap length (c.variables.ensures printed))

pub returns-in_default : goal.returns-in_default
returns-in_default c = record {
  size = λ printed. ap length (c.numbers.ensures printed) ∙ sym (other_size (state_seen c.args.self.now printed) c.args.array.now c.in_default.not-Variables);
  small = search (rules, arith);
}
