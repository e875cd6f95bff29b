-- The solvers read the variable.
use Rattle.run_state.specs.Views.{state_seen}
use Rattle.run_state.proofs.ReadLaws.{read_so}
use Rattle.run_state.proofs.state.State.read.Goals as goal

pub returns-in-Variable-clause-did : goal.returns-in-Variable-clause-did
returns-in-Variable-clause-did g c =
    let s = state_seen c.args.self.now (g.O.Outside.told c.args.out.now) in
    rw c.in-Variable.is (read_so c.args.at c.in-Variable.variable s _ (c.read_variable.ensures.did s))
