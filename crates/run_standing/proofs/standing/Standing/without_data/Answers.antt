-- The state is copied, the solvers are the same, and there are no users' constraints.
use Rattle.std.specs.Prelude.{[]}
use Rattle.run_standing.proofs.standing.Standing.without_data.Goals as goal

pub returns-clause-same : goal.returns-clause-same
returns-clause-same g c = λ printed. rw c.new-users.ensures.items (rw c.in_ok-solvers.ensures.same (c.in_ok-state.ensures.same (record { printed = printed; solvers = c.args.self.now.solvers; users = [] })))
