-- The solver is there, and the change is its own; or it isn't there.
use Rattle.std.proofs.Common.{◌≡◌, ◌<◌, length, get_or, sym, ◌∙◌, ap, arith, rules}
use Rattle.comet_meaning.specs.Parts.{solver_at}
use Rattle.run_solvers.specs.Changing.{Made, changed}
use Rattle.run_solvers.specs.Views.{held_seen}
use Rattle.run_solvers.proofs.Acts.{defines}
use Rattle.run_solvers.proofs.FoundSolvers as found_solvers
use Rattle.run_solvers.proofs.FoundSolvers.{changed_kept, does, does_so, found, kept_there, not_found}
use Rattle.run_solvers.proofs.solvers.Solvers.define.Goals as goal

pub returns-then-own-len-clause-did : goal.returns-then-own-len-clause-did
returns-then-own-len-clause-did g c = λ s is.
    let held = c.self.inside.held.items in
    let none = not_found held c.args.variable.solver s (is ∙ sym c.self.view_is) (omega (arith, c.len.ensures, c.if-own-len.true)) in
    defines c.args.at c.args.variable c.args.built s ∙ ap (λ (made : Made). changed tt c.args.variable.solver made s) (found_solvers.defined_nowhere c.args.at c.args.variable c.args.built (solver_at s c.args.variable.solver) none)

pub define-requires-clause-kept : goal.define-requires-clause-kept
define-requires-clause-kept g c =
    let held = c.self.inside.held.items in
    let there : c.index_mut.result.now ≡ get_or held c.args.variable.solver c.index_mut.result.now = search rules in
    (kept_there held c.args.variable.solver c.index_mut.result.now c.self.invariant (omega (arith, c.len.ensures, c.if-own-len.false)) there).1

pub define-requires-clause-own : goal.define-requires-clause-own
define-requires-clause-own g c =
    let held = c.self.inside.held.items in
    let there : c.index_mut.result.now ≡ get_or held c.args.variable.solver c.index_mut.result.now = search rules in
    sym (kept_there held c.args.variable.solver c.index_mut.result.now c.self.invariant (omega (arith, c.len.ensures, c.if-own-len.false)) there).0

pub invariant_of-self : goal.invariant_of-self
invariant_of-self g c =
    let held = c.self.inside.held.items in
    let there : c.index_mut.result.now ≡ get_or held c.args.variable.solver c.index_mut.result.now = search rules in
    let lt : c.args.variable.solver < length held = omega (arith, c.len.ensures, c.if-own-len.false) in
    let old = kept_there held c.args.variable.solver c.index_mut.result.now c.self.invariant lt there in
    changed_kept held c.self.invariant c.args.variable.solver c.define.new.self lt (c.define.ensures.number ∙ old.0) c.define.ensures.kept

pub returns-clause-did : goal.returns-clause-did
returns-clause-did g c = λ s is.
    let held = c.self.inside.held.items in
    let all = is ∙ sym c.self.view_is in
    let there : c.index_mut.result.now ≡ get_or held c.args.variable.solver c.index_mut.result.now = search rules in
    let lt : c.args.variable.solver < length held = omega (arith, c.len.ensures, c.if-own-len.false) in
    rw (defines c.args.at c.args.variable c.args.built s, found held c.args.variable.solver c.index_mut.result.now s all lt there) (does_so tt c.args.variable.solver s held c.define.new.self c.define.result _ all c.define.ensures.meant)

pub returns-clause-stop : goal.returns-clause-stop
returns-clause-stop g c = found_solvers.no_cycle_so (held_seen c.define.new.self) c.define.result _ (found_solvers.defined_none c.args.at c.args.variable c.args.built (held_seen c.index_mut.result.now)) c.define.ensures.meant
