-- The solution is there, and its solver gets its numbers, and the events of what changes stand behind those that wait.
use Rattle.std.proofs.Common.{sym, ◌∙◌, refl}
use Rattle.std.proofs.lemmas.Result.{err_from_is_err_and}
use Rattle.comet_meaning.specs.Changes.{changes_of}
use Rattle.comet_meaning.specs.Parts.{solver_at}
use Rattle.run_search.specs.Searches.{search_seen, solution_seen}
use Rattle.run_state.specs.Views.{state_seen}
use Rattle.run_state.proofs.OtherValues.{no_solution, nothing_there, restored_stops, restored_went}
use Rattle.run_state.proofs.state.State.restore_one.Goals as goal

pub returns-in_default-clause-did : goal.returns-in_default-clause-did
returns-in_default-clause-did g c = let printed = g.O.Outside.told c.args.out.now in no_solution c.args.at c.args.number (state_seen c.args.self.now printed) (nothing_there _ c.solution.result _ c.in_default.not-Some c.solution.ensures)

pub returns-in_err-changes-clause-did : goal.returns-in_err-changes-clause-did
returns-in_err-changes-clause-did g c =
    let printed = g.O.Outside.told c.args.out.now in
    let s = state_seen c.args.self.now printed in
    let p = err_from_is_err_and c.from_residual.result c.from_residual.ensures.1 in
    rw (p.1, p.2) (restored_stops c.args.at c.args.number s (solution_seen c.in-Some.solution.now) (sym c.in-Some.ensures) _ _ (c.in_err-changes.ensures.did s))

pub returns-clause-did : goal.returns-clause-did
returns-clause-did g c =
    let s = state_seen c.args.self.now (g.O.Outside.told c.args.out.now) in
    let u = state_seen c.args.self.now (g.O.Outside.told c.restore.new.self) in
    let x = c.in-Some.solution.now in
    restored_went c.args.at c.args.number s (solution_seen x) (sym c.in-Some.ensures) u (search_seen c.queue.new.self) (c.in_ok-changes.ensures.did s)
    (c.in_ok-queue.ensures.queued x.solver (changes_of (solver_at s x.solver) (solver_at u x.solver)) (c.deref.ensures.value ∙ c.in_ok-changes.ensures.told))
