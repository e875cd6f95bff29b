-- The names are bound, the statement runs, and the frame is put back.
use Rattle.comet_meaning.specs.Program.{level}
use Rattle.comet_meaning.proofs.GoingStatements.{goes_level}
use Rattle.event_forms.specs.Bindings.{bound_by}
use Rattle.event_forms.proofs.QueueLaws.{closure_ends, closure_unbound, closure_went, goes_bound}
use Rattle.run_steps.specs.OfRunSearch.Searches.{closure_seen}
use Rattle.run_steps.specs.OfRunState.Views.{state_seen}
use Rattle.run_steps.proofs.Exits.{act_ends, exit}
use Rattle.run_steps.proofs.Trees.{work_of_task}
use Rattle.event_forms.proofs.closures.run_closure.Goals as goal

pub returns-in_err-bind : goal.returns-in_err-bind
returns-in_err-bind g c =
    let s = (state_seen c.args.s.now (g.O.Outside.told c.args.out.now)) in
    let after = c.replace-frame.ensures.after in
    record { did = exit _ _ _ _ _ c.from_residual.ensures.1 (closure_unbound (level (g.W.Within.code c.args.inside.now) (g.W.Within.depth c.args.inside.now)) (goes_level _ _) (closure_seen c.args.closure) (bound_by c.args.binding) s _ _ (act_ends _ _ _ (rw after at (c.in_err-bind.ensures.did (g.O.Outside.told c.args.out.now))) ((goes_bound c.args.binding).from (record s { frame = (closure_seen c.args.closure).frame })).printed)) }

pub returns-in_err-_flow : goal.returns-in_err-_flow
returns-in_err-_flow g c =
    let s = (state_seen c.args.s.now (g.O.Outside.told c.args.out.now)) in
    let after = c.replace-frame.ensures.after in
    record { did = exit _ _ _ _ _ c.from_residual-in_err-_flow.ensures.1 (closure_ends (level (g.W.Within.code c.args.inside.now) (g.W.Within.depth c.args.inside.now)) (goes_level _ _) (closure_seen c.args.closure) (bound_by c.args.binding) s _ _ (rw after at (c.in_ok-bind.ensures.did (g.O.Outside.told c.args.out.now))) (rw (c.deref-2.ensures, c.deref.ensures, work_of_task c.args.closure.body.value.value) at c.in_err-_flow.ensures.did)) }

pub returns : goal.returns
returns g c =
    let s = (state_seen c.args.s.now (g.O.Outside.told c.args.out.now)) in
    let after = c.replace-frame.ensures.after in
    record { did = rw c.replace-frame.ensures.value (closure_went (level (g.W.Within.code c.args.inside.now) (g.W.Within.depth c.args.inside.now)) (goes_level _ _) (closure_seen c.args.closure) (bound_by c.args.binding) s {u = state_seen c.execute.new.s (g.O.Outside.told c.execute.new.out)} (rw after at (c.in_ok-bind.ensures.did (g.O.Outside.told c.args.out.now))) (rw (c.deref-2.ensures, c.deref.ensures, work_of_task c.args.closure.body.value.value) at c.in_ok-_flow.ensures.did)) }
