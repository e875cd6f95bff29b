-- Data that is not too long is read from its first word on.
use Rattle.std.proofs.Common.{arith}
use Rattle.run_state.specs.Views.{state_seen}
use Rattle.run_state.proofs.ActLaws.{read_law}
use Rattle.run_state.proofs.state.State.next_number.Goals as goal

pub returns-in-Input-clause-did : goal.returns-in-Input-clause-did
returns-in-Input-clause-did c = λ printed.
    let text = c.args.self.now.data in
    rw (c.in-Input.is, read_law c.args.at _ (state_seen c.args.self.now printed) (omega (arith, text.ok.0))) (c.first_word.ensures.did printed)
