-- What the solvers do is done to the state that has them, and what it changes is queued.
use Rattle.std.proofs.Common.{◌≡◌, refl, sym, ◌∙◌, w64, to_z, of_z, rules}
use Rattle.comet_meaning.specs.Models.{swap}
use Rattle.run_state.specs.Views.{state_seen}
use Rattle.run_objects.proofs.NoticeLaws.{noticed_so, noticed_stopped}
use Rattle.run_objects.proofs.variables.swap.Goals as goal

pub returns-in-Ok-clause-did : goal.returns-in-Ok-clause-did
returns-in-Ok-clause-did g c =
    noticed_so c.args.x.solver (swap c.args.at c.args.x c.args.y) (state_seen c.args.s.now (g.O.Outside.told c.args.out.now)) _ _ _ (c.in-Ok.ensures.did (state_seen c.args.s.now (g.O.Outside.told c.args.out.now))) (c.notice.ensures.did (g.O.Outside.told c.swap.new.self) c.args.x.solver _ (c.deref.ensures.value ∙ c.in-Ok.ensures.told))

pub returns-in-Err-clause-did : goal.returns-in-Err-clause-did
returns-in-Err-clause-did g c =
    noticed_stopped c.args.x.solver (swap c.args.at c.args.x c.args.y) (state_seen c.args.s.now (g.O.Outside.told c.args.out.now)) c.in-Err.stop _ (c.in-Err.ensures.did (state_seen c.args.s.now (g.O.Outside.told c.args.out.now)))
