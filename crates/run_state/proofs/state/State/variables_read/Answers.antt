-- The variables are read, and then their numbers are taken.
use Rattle.std.proofs.lemmas.Result.{err_from_is_err_and}
use Rattle.run_state.specs.Views.{state_seen}
use Rattle.run_state.proofs.ReadLaws.{variables_numbers, numbers_unread, did_made}
use Rattle.run_state.proofs.state.State.variables_read.Goals as goal

pub returns-in_err-values-clause-did : goal.returns-in_err-values-clause-did
returns-in_err-values-clause-did g c =
    let printed = g.O.Outside.told c.args.out.now in
    let p = err_from_is_err_and c.from_residual.result c.from_residual.ensures.1 in
    rw (p.1, p.2) (numbers_unread c.args.at c.args.array (state_seen c.args.self.now printed) _ (rw (c.variables.ensures printed) at (c.in_err-values.ensures.did)))

pub returns-clause-did : goal.returns-clause-did
returns-clause-did g c =
    let printed = g.O.Outside.told c.args.out.now in
    let s = state_seen c.args.self.now printed in
    let read = variables_numbers c.args.at c.args.array s _ (rw (c.variables.ensures printed) at (c.in_ok-values.ensures.did)) in
    did_made (λ numbers. numbers.items) c.numbers_of.result _ s _ read (rw c.deref.ensures.value at c.numbers_of.ensures.numbers) c.numbers_of.ensures.memory
