-- The statement is shared, and the names that it sees are copied.
use Rattle.std.proofs.Common.{◌≡◌, rules}
use Rattle.run_state.specs.Views.{state_seen}
use Rattle.run_state.proofs.OtherValues.{closed_copy}
use Rattle.run_state.proofs.state.State.closed_over.Goals as goal

pub returns-clause-did : goal.returns-clause-did
returns-clause-did c = λ printed.
    let same : c.in_ok-body.body.value.value ≡ c.args.body.now.value.value = search rules in
    closed_copy c.args.body.now.value.value (state_seen c.args.self.now printed) c.in_ok-body.body c.in_ok-frame.frame same c.in_ok-frame.ensures.same
