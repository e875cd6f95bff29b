-- What the solvers give, and whether a selector keeps a move.
use Rattle.comet_meaning.specs.Methods.{method_value}
use Rattle.run_state.specs.Views.{state_seen}
use Rattle.run_objects.proofs.methods.method.Goals as goal

pub returns-in-HasMove-clause-did : goal.returns-in-HasMove-clause-did
unfolding method_value
returns-in-HasMove-clause-did g c = rw c.in-HasMove.is (c.has_move.ensures (g.O.Outside.told c.args.out.now))

pub returns-in-Close-clause-did : goal.returns-in-Close-clause-did
unfolding method_value
returns-in-Close-clause-did g c = rw c.in-Close.is (c.close.ensures.did (state_seen c.args.s.now (g.O.Outside.told c.args.out.now)))

pub returns-in-Domain-clause-did : goal.returns-in-Domain-clause-did
unfolding method_value
returns-in-Domain-clause-did g c = rw c.in-Domain.is (c.domain_of.ensures.did (state_seen c.args.s.now (g.O.Outside.told c.args.out.now)))

pub returns-in-Violations-clause-did : goal.returns-in-Violations-clause-did
unfolding method_value
returns-in-Violations-clause-did g c = rw c.in-Violations.is (c.violations.ensures.did (state_seen c.args.s.now (g.O.Outside.told c.args.out.now)))

pub returns-in-SystemAssignDelta-clause-did : goal.returns-in-SystemAssignDelta-clause-did
unfolding method_value
returns-in-SystemAssignDelta-clause-did g c = rw c.in-SystemAssignDelta.is (c.assign_delta.ensures.did (state_seen c.args.s.now (g.O.Outside.told c.args.out.now)))

pub returns-in-SystemSwapDelta-clause-did : goal.returns-in-SystemSwapDelta-clause-did
unfolding method_value
returns-in-SystemSwapDelta-clause-did g c = rw c.in-SystemSwapDelta.is (c.swap_delta.ensures.did (state_seen c.args.s.now (g.O.Outside.told c.args.out.now)))

pub returns-in-ObjectiveValue-clause-did : goal.returns-in-ObjectiveValue-clause-did
unfolding method_value
returns-in-ObjectiveValue-clause-did g c = rw c.in-ObjectiveValue.is (c.whole_value.ensures.did (state_seen c.args.s.now (g.O.Outside.told c.args.out.now)))

pub returns-in-ObjectiveEvaluation-clause-did : goal.returns-in-ObjectiveEvaluation-clause-did
unfolding method_value
returns-in-ObjectiveEvaluation-clause-did g c = rw c.in-ObjectiveEvaluation.is (c.whole_value-in-ObjectiveEvaluation.ensures.did (state_seen c.args.s.now (g.O.Outside.told c.args.out.now)))

pub returns-in-ObjectiveAssignDelta-clause-did : goal.returns-in-ObjectiveAssignDelta-clause-did
unfolding method_value
returns-in-ObjectiveAssignDelta-clause-did g c = rw c.in-ObjectiveAssignDelta.is (c.assign_delta-in-ObjectiveAssignDelta.ensures.did (state_seen c.args.s.now (g.O.Outside.told c.args.out.now)))

pub returns-in-ObjectiveSwapDelta-clause-did : goal.returns-in-ObjectiveSwapDelta-clause-did
unfolding method_value
returns-in-ObjectiveSwapDelta-clause-did g c = rw c.in-ObjectiveSwapDelta.is (c.swap_delta-in-ObjectiveSwapDelta.ensures.did (state_seen c.args.s.now (g.O.Outside.told c.args.out.now)))
