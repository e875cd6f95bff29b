-- What the solvers do is done to the state that has them, and what it changes is queued.
use Rattle.std.proofs.Common.{◌≡◌, refl, sym, ◌∙◌, w64, to_z, of_z, rules}
use Rattle.comet_meaning.specs.Blocks.{commit_waiting}
use Rattle.run_state.specs.Views.{state_seen}
use Rattle.run_objects.proofs.NoticeLaws.{noticed_so, noticed_stopped}
use Rattle.run_objects.proofs.variables.commit_waiting.Goals as goal

pub returns-in-Ok-clause-did : goal.returns-in-Ok-clause-did
returns-in-Ok-clause-did g c =
    rw (← c.solver.ensures) (noticed_so c.solver.result (commit_waiting c.solver.result) (state_seen c.args.s.now (g.O.Outside.told c.args.out.now)) _ _ _ (c.in-Ok.ensures.did (state_seen c.args.s.now (g.O.Outside.told c.args.out.now))) (c.notice.ensures.did (g.O.Outside.told c.commit_waiting.new.self) c.solver.result _ (c.deref.ensures.value ∙ c.in-Ok.ensures.told)))

pub returns-in-Err-clause-did : goal.returns-in-Err-clause-did
returns-in-Err-clause-did g c =
    rw (← c.solver.ensures) (noticed_stopped c.solver.result (commit_waiting c.solver.result) (state_seen c.args.s.now (g.O.Outside.told c.args.out.now)) c.in-Err.stop _ (c.in-Err.ensures.did (state_seen c.args.s.now (g.O.Outside.told c.args.out.now))))
