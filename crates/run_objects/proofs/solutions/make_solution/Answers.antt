-- The numbers are kept, or the solver is open.
use Rattle.std.proofs.Common.{refl, ◌∙◌}
use Rattle.run_state.specs.Views.{state_seen}
use Rattle.run_objects.proofs.KeepLaws.{keeps_none, keeps_numbers}
use Rattle.run_objects.proofs.solutions.make_solution.Goals as goal

pub returns-in-Ok-clause-did : goal.returns-in-Ok-clause-did
returns-in-Ok-clause-did g c =
    rw (← c.solver.ensures, keeps_numbers c.args.at c.solver.result c.in-Ok.solution.solver c.in-Ok.solution.values (state_seen c.args.s.now (g.O.Outside.told c.args.out.now)) c.in-Ok.ensures.number (c.in-Ok.ensures.did (state_seen c.args.s.now (g.O.Outside.told c.args.out.now)))) (c.keep_solution.ensures.did (g.O.Outside.told c.args.out.now))

pub returns-in-Err-clause-did : goal.returns-in-Err-clause-did
returns-in-Err-clause-did g c =
    rw (← c.solver.ensures) (keeps_none c.args.at c.solver.result (state_seen c.args.s.now (g.O.Outside.told c.args.out.now)) _ c.in-Err.stop (c.in-Err.ensures.did (state_seen c.args.s.now (g.O.Outside.told c.args.out.now))))
