-- The numbers of all free variables wait.
use Rattle.std.proofs.Common.{◌≡◌, ℕ, List, length, refl, ◌∙◌, ap, subst, arith}
use Rattle.std.specs.Prelude.{zip}
use Rattle.std.specs.Option.{option_map}
use Rattle.ls_solver.specs.OfSolverModels.FreeVariables.{free_places}
use Rattle.run_solvers.specs.Views.{held_seen, waits}
use Rattle.run_solvers.specs.Waiting.{waiting_behind}
use Rattle.run_solvers.proofs.SolutionLaws.{free_seen, restored_moves, waited_all, waiting_all, waits_closed, written_all}
use Rattle.run_solvers.proofs.ToldLaws.{nothing_told}
use Rattle.run_solvers.proofs.held.Held.restore_later.Goals as goal

pub returns : goal.returns
returns g c =
    let old = c.args.self.now in
    let values = c.args.values.now in
    let whole = c.requires.kept.0 in
    let v = option_map (λ w. w.items) c.wait_for_all.new.waiting in
    let free = c.in-Ok.ensures ∙ free_seen old.solver old.names (waits old) in
    let many = ap length free in
    let long : length values ≡ length (free_places old.solver.model) = omega (arith, many, c.len.ensures, c.if-len-values.false) in
    let some : v ≡ option_map (waiting_behind (zip c.deref.result.now values)) (waits old) = c.wait_for_all.ensures ∙ written_all old.waiting (zip c.deref.result.now values) in
    let next : v ≡ option_map (waiting_behind (zip (free_places old.solver.model) values)) (waits old) =
    subst (λ (ps : List ℕ). v ≡ option_map (waiting_behind (zip ps values)) (waits old)) (c.deref.ensures.value ∙ free) some in
    let closed = waits_closed old.solver (waits old) c.requires.waits whole.waits_ in record {
      meant = restored_moves old.solver old.names (waits old) c.args.at values closed long ∙ waited_all old.solver old.names (waits old) v (zip (free_places old.solver.model) values) next c.requires.waits c.keeps_form.ensures.assigned whole.waits_;
      kept = (record { number_ = whole.number_; usable = whole.usable; named = whole.named; waits_ = waiting_all old.solver (waits old) v values next whole.waits_ }, c.requires.kept.1);
      number = refl;
      told = nothing_told old.number (held_seen old) (held_seen (record old { waiting = c.wait_for_all.new.waiting })) c.new.result refl refl refl c.new.ensures.items;
    }
