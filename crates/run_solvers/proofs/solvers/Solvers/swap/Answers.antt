-- The solver is there, and the change is its own; or it isn't there.
use Rattle.std.proofs.Common.{◌≡◌, ◌<◌, List, length, get_or, map, set, subst, sym, ◌∙◌, ap, arith, rules}
use Rattle.comet_meaning.specs.Parts.{solver_at}
use Rattle.comet_meaning.specs.Solvers.{SolverState}
use Rattle.run_solvers.specs.Told.{TellsIn}
use Rattle.run_solvers.proofs.ToldLaws.{tells_there}
use Rattle.run_solvers.specs.Changing.{Made, changed}
use Rattle.run_solvers.specs.Views.{held_seen}
use Rattle.run_solvers.proofs.Acts.{swaps}
use Rattle.run_solvers.proofs.FoundSolvers as found_solvers
use Rattle.run_solvers.proofs.FoundSolvers.{changed_kept, does, does_so, found, kept_there, not_found}
use Rattle.run_solvers.proofs.solvers.Solvers.swap.Goals as goal

pub returns-then-own-len-clause-did : goal.returns-then-own-len-clause-did
returns-then-own-len-clause-did g c = λ s is.
    let held = c.self.inside.held.items in
    let none = not_found held c.args.x.solver s (is ∙ sym c.self.view_is) (omega (arith, c.len.ensures, c.if-own-len.true)) in
    swaps c.args.at c.args.x c.args.y s ∙ ap (λ (made : Made). changed tt c.args.x.solver made s) (found_solvers.swapped_nowhere c.args.at c.args.x c.args.y (solver_at s c.args.x.solver) none)

pub swap-requires-clause-kept : goal.swap-requires-clause-kept
swap-requires-clause-kept g c =
    let held = c.self.inside.held.items in
    let there : c.index_mut.result.now ≡ get_or held c.args.x.solver c.index_mut.result.now = search rules in
    (kept_there held c.args.x.solver c.index_mut.result.now c.self.invariant (omega (arith, c.len.ensures, c.if-own-len.false)) there).1

pub swap-requires-clause-own : goal.swap-requires-clause-own
swap-requires-clause-own g c =
    let held = c.self.inside.held.items in
    let there : c.index_mut.result.now ≡ get_or held c.args.x.solver c.index_mut.result.now = search rules in
    sym (kept_there held c.args.x.solver c.index_mut.result.now c.self.invariant (omega (arith, c.len.ensures, c.if-own-len.false)) there).0

pub invariant_of-self : goal.invariant_of-self
invariant_of-self g c =
    let held = c.self.inside.held.items in
    let there : c.index_mut.result.now ≡ get_or held c.args.x.solver c.index_mut.result.now = search rules in
    let lt : c.args.x.solver < length held = omega (arith, c.len.ensures, c.if-own-len.false) in
    let old = kept_there held c.args.x.solver c.index_mut.result.now c.self.invariant lt there in
    changed_kept held c.self.invariant c.args.x.solver c.swap.new.self lt (c.swap.ensures.number ∙ old.0) c.swap.ensures.kept

pub returns-clause-did : goal.returns-clause-did
returns-clause-did g c = λ s is.
    let held = c.self.inside.held.items in
    let all = is ∙ sym c.self.view_is in
    let there : c.index_mut.result.now ≡ get_or held c.args.x.solver c.index_mut.result.now = search rules in
    let lt : c.args.x.solver < length held = omega (arith, c.len.ensures, c.if-own-len.false) in
    rw (swaps c.args.at c.args.x c.args.y s, found held c.args.x.solver c.index_mut.result.now s all lt there) (does_so tt c.args.x.solver s held c.swap.new.self c.swap.result _ all c.swap.ensures.meant)

pub returns-clause-stop : goal.returns-clause-stop
returns-clause-stop g c = found_solvers.no_cycle_so (held_seen c.swap.new.self) c.swap.result _ (found_solvers.swapped_none c.args.at c.args.x c.args.y (held_seen c.index_mut.result.now)) c.swap.ensures.meant

pub returns-clause-told : goal.returns-clause-told
returns-clause-told g c =
    let held = c.self.inside.held.items in
    let there : c.index_mut.result.now ≡ get_or held c.args.x.solver c.index_mut.result.now = search rules in
    let lt : c.args.x.solver < length held = omega (arith, c.len.ensures, c.if-own-len.false) in
    let old = kept_there held c.args.x.solver c.index_mut.result.now c.self.invariant lt there in
    subst (λ (ms : List SolverState). TellsIn c.args.x.solver ms (map held_seen (set held c.args.x.solver c.swap.new.self)) c.swap.result) c.self.view_is (tells_there held c.args.x.solver c.index_mut.result.now c.swap.new.self c.swap.result old.0 lt there c.swap.ensures.told)
