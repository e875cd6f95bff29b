-- The solver is there, and the change is its own; or it isn't there.
use Rattle.std.proofs.Common.{◌≡◌, ◌<◌, ℤ, List, length, get_or, map, set, sym, ◌∙◌, ap, subst, arith, rules, w64, to_z, of_z}
use Rattle.comet_meaning.specs.Parts.{solver_at}
use Rattle.comet_meaning.specs.Solvers.{SolverState}
use Rattle.run_solvers.specs.Told.{TellsIn}
use Rattle.run_solvers.proofs.ToldLaws.{tells_there}
use Rattle.run_solvers.specs.Changing.{Made, assigned_one, changed}
use Rattle.run_solvers.specs.Makes.{Makes}
use Rattle.run_solvers.specs.Views.{held_seen}
use Rattle.run_solvers.proofs.Acts.{assigns}
use Rattle.run_solvers.proofs.FoundSolvers as found_solvers
use Rattle.run_solvers.proofs.FoundSolvers.{changed_kept, does, does_so, found, kept_there, not_found}
use Rattle.run_solvers.proofs.solvers.Solvers.assign.Goals as goal

pub returns-then-own-len-clause-did : goal.returns-then-own-len-clause-did
returns-then-own-len-clause-did g c = λ s is.
    let held = c.self.inside.held.items in
    let none = not_found held c.args.variable.solver s (is ∙ sym c.self.view_is) (omega (arith, c.len.ensures, c.if-own-len.true)) in
    assigns c.args.at c.args.variable c.args.number s ∙ ap (λ (made : Made). changed tt c.args.variable.solver made s) (found_solvers.assigned_nowhere c.args.at c.args.variable c.args.number (solver_at s c.args.variable.solver) none)

pub assign-requires-clause-kept : goal.assign-requires-clause-kept
assign-requires-clause-kept g c =
    let held = c.self.inside.held.items in
    let there : c.index_mut.result.now ≡ get_or held c.args.variable.solver c.index_mut.result.now = search rules in
    (kept_there held c.args.variable.solver c.index_mut.result.now c.self.invariant (omega (arith, c.len.ensures, c.if-own-len.false)) there).1

pub assign-requires-clause-own : goal.assign-requires-clause-own
assign-requires-clause-own g c =
    let held = c.self.inside.held.items in
    let there : c.index_mut.result.now ≡ get_or held c.args.variable.solver c.index_mut.result.now = search rules in
    sym (kept_there held c.args.variable.solver c.index_mut.result.now c.self.invariant (omega (arith, c.len.ensures, c.if-own-len.false)) there).0

pub invariant_of-self : goal.invariant_of-self
invariant_of-self g c =
    let held = c.self.inside.held.items in
    let there : c.index_mut.result.now ≡ get_or held c.args.variable.solver c.index_mut.result.now = search rules in
    let lt : c.args.variable.solver < length held = omega (arith, c.len.ensures, c.if-own-len.false) in
    let old = kept_there held c.args.variable.solver c.index_mut.result.now c.self.invariant lt there in
    changed_kept held c.self.invariant c.args.variable.solver c.assign.new.self lt (c.assign.ensures.number ∙ old.0) c.assign.ensures.kept

pub returns-clause-did : goal.returns-clause-did
returns-clause-did g c = λ s is.
    let held = c.self.inside.held.items in
    let all = is ∙ sym c.self.view_is in
    let there : c.index_mut.result.now ≡ get_or held c.args.variable.solver c.index_mut.result.now = search rules in
    let lt : c.args.variable.solver < length held = omega (arith, c.len.ensures, c.if-own-len.false) in
    let same : to_z w64 (of_z w64 c.args.number) ≡ c.args.number = search rules in
    rw (assigns c.args.at c.args.variable c.args.number s, found held c.args.variable.solver c.index_mut.result.now s all lt there) (does_so tt c.args.variable.solver s held c.assign.new.self c.assign.result _ all (subst (λ (z : ℤ). Makes (held_seen c.assign.new.self) c.assign.result (assigned_one c.args.at c.args.variable z (held_seen c.index_mut.result.now))) same c.assign.ensures.meant))

pub returns-clause-stop : goal.returns-clause-stop
returns-clause-stop g c = found_solvers.no_cycle_so (held_seen c.assign.new.self) c.assign.result _ (found_solvers.assigned_none c.args.at c.args.variable (to_z w64 (of_z w64 c.args.number)) (held_seen c.index_mut.result.now)) c.assign.ensures.meant

pub returns-clause-told : goal.returns-clause-told
returns-clause-told g c =
    let held = c.self.inside.held.items in
    let there : c.index_mut.result.now ≡ get_or held c.args.variable.solver c.index_mut.result.now = search rules in
    let lt : c.args.variable.solver < length held = omega (arith, c.len.ensures, c.if-own-len.false) in
    let old = kept_there held c.args.variable.solver c.index_mut.result.now c.self.invariant lt there in
    subst (λ (ms : List SolverState). TellsIn c.args.variable.solver ms (map held_seen (set held c.args.variable.solver c.assign.new.self)) c.assign.result) c.self.view_is (tells_there held c.args.variable.solver c.index_mut.result.now c.assign.new.self c.assign.result old.0 lt there c.assign.ensures.told)
