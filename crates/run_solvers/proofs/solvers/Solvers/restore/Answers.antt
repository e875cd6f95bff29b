-- The solver is there, and the change is its own; or it isn't there.
use Rattle.std.proofs.Common.{◌≡◌, ◌<◌, List, length, get_or, map, set, refl, sym, ◌∙◌, ap, subst, arith, rules}
use Rattle.comet_meaning.specs.Parts.{solver_at}
use Rattle.comet_meaning.specs.Solvers.{SolverState}
use Rattle.run_solvers.specs.Changing.{changed}
use Rattle.run_solvers.specs.Solutions.{restored_one}
use Rattle.run_solvers.specs.Told.{TellsIn}
use Rattle.run_solvers.specs.Views.{held_seen}
use Rattle.run_solvers.proofs.Acts.{restores}
use Rattle.run_solvers.proofs.FoundSolvers as found_solvers
use Rattle.run_solvers.proofs.FoundSolvers.{changed_kept, does_so, found, kept_there, not_found}
use Rattle.run_solvers.proofs.ToldLaws.{tells_there}
use Rattle.run_solvers.proofs.solvers.Solvers.restore.Goals as goal

pub returns-then-number-len-clause-did : goal.returns-then-number-len-clause-did
returns-then-number-len-clause-did g c = λ s is.
    let held = c.self.inside.held.items in
    let x = c.args.solution.now in
    let none = not_found held x.solver s (is ∙ sym c.self.view_is) (omega (arith, c.len.ensures, c.if-number-len.true)) in
    restores c.args.at x.solver x.values (solver_at s x.solver) s refl ∙ ap (λ (m : SolverState). changed tt x.solver (restored_one c.args.at x.values m) s) none

pub restore-requires-clause-kept : goal.restore-requires-clause-kept
restore-requires-clause-kept g c =
    let held = c.self.inside.held.items in
    let there : c.index_mut.result.now ≡ get_or held c.args.solution.now.solver c.index_mut.result.now = search rules in
    (kept_there held c.args.solution.now.solver c.index_mut.result.now c.self.invariant (omega (arith, c.len.ensures, c.if-number-len.false)) there).1

pub restore-requires-clause-own : goal.restore-requires-clause-own
restore-requires-clause-own g c =
    let held = c.self.inside.held.items in
    let there : c.index_mut.result.now ≡ get_or held c.args.solution.now.solver c.index_mut.result.now = search rules in
    sym (kept_there held c.args.solution.now.solver c.index_mut.result.now c.self.invariant (omega (arith, c.len.ensures, c.if-number-len.false)) there).0

pub invariant_of-self : goal.invariant_of-self
invariant_of-self g c =
    let held = c.self.inside.held.items in
    let there : c.index_mut.result.now ≡ get_or held c.args.solution.now.solver c.index_mut.result.now = search rules in
    let lt : c.args.solution.now.solver < length held = omega (arith, c.len.ensures, c.if-number-len.false) in
    let old = kept_there held c.args.solution.now.solver c.index_mut.result.now c.self.invariant lt there in
    changed_kept held c.self.invariant c.args.solution.now.solver c.restore.new.self lt (c.restore.ensures.number ∙ old.0) c.restore.ensures.kept

pub returns-clause-did : goal.returns-clause-did
returns-clause-did g c = λ s is.
    let held = c.self.inside.held.items in
    let x = c.args.solution.now in
    let all = is ∙ sym c.self.view_is in
    let there : c.index_mut.result.now ≡ get_or held x.solver c.index_mut.result.now = search rules in
    let lt : x.solver < length held = omega (arith, c.len.ensures, c.if-number-len.false) in
    rw (restores c.args.at x.solver x.values (solver_at s x.solver) s refl, found held x.solver c.index_mut.result.now s all lt there) (does_so tt x.solver s held c.restore.new.self c.restore.result _ all c.restore.ensures.meant)

pub returns-clause-told : goal.returns-clause-told
returns-clause-told g c =
    let held = c.self.inside.held.items in
    let number = c.args.solution.now.solver in
    let there : c.index_mut.result.now ≡ get_or held number c.index_mut.result.now = search rules in
    let lt : number < length held = omega (arith, c.len.ensures, c.if-number-len.false) in
    let old = kept_there held number c.index_mut.result.now c.self.invariant lt there in
    subst (λ (ms : List SolverState). TellsIn number ms (map held_seen (set held number c.restore.new.self)) c.restore.result) c.self.view_is (tells_there held number c.index_mut.result.now c.restore.new.self c.restore.result old.0 lt there c.restore.ensures.told)

pub returns-clause-stop : goal.returns-clause-stop
returns-clause-stop g c = found_solvers.no_cycle_so (held_seen c.restore.new.self) c.restore.result _ (found_solvers.restored_none c.args.at c.args.solution.now.values (held_seen c.index_mut.result.now)) c.restore.ensures.meant
