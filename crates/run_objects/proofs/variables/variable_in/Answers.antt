-- The solver is the one that the name holds.
use Rattle.comet_meaning.specs.Variables.{variable_in}
use Rattle.run_state.specs.Views.{state_seen}
use Rattle.run_objects.proofs.variables.variable_in.Goals as goal

pub returns-in-Ok-clause-did : goal.returns-in-Ok-clause-did
unfolding variable_in
returns-in-Ok-clause-did g c =
    rw (c.in-Ok.ensures.did (g.O.Outside.told c.args.out.now)) (c.new_variable.ensures.did (state_seen c.args.s.now (g.O.Outside.told c.args.out.now)))
