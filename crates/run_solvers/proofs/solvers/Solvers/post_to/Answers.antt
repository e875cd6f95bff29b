-- The solver is there, and the change is its own; or it isn't there.
use Rattle.std.proofs.Common.{◌≡◌, ◌<◌, ℤ, length, get_or, sym, ◌∙◌, ap, subst, arith, rules, w64, to_z, of_z}
use Rattle.ls_solver.specs.Totals.{whole_of}
use Rattle.comet_meaning.specs.Parts.{solver_at}
use Rattle.comet_meaning.specs.Values.{Nothing}
use Rattle.run_solvers.specs.Changing.{Made, changed, posted_one}
use Rattle.run_solvers.specs.Makes.{Makes}
use Rattle.run_solvers.specs.Views.{held_seen}
use Rattle.run_solvers.proofs.TotalActs.{posted_none, posted_nowhere, posts}
use Rattle.run_solvers.proofs.FoundSolvers.{changed_kept, does_so, found, kept_there, no_cycle_so, not_found}
use Rattle.run_solvers.proofs.solvers.Solvers.post_to.Goals as goal

pub returns-then-number-len-clause-did : goal.returns-then-number-len-clause-did
returns-then-number-len-clause-did g c = λ s is.
    let held = c.self.inside.held.items in
    let k = c.args.total.solver in
    let none = not_found held k s (is ∙ sym c.self.view_is) (omega (arith, c.len.ensures, c.if-number-len.true)) in
    posts c.args.at c.args.built c.args.weight k (whole_of c.args.total) s
    ∙ ap (λ (made : Made). changed Nothing k made s) (posted_nowhere c.args.at k (whole_of c.args.total) c.args.built c.args.weight (solver_at s k) none)

pub post-requires-clause-kept : goal.post-requires-clause-kept
post-requires-clause-kept g c =
    let held = c.self.inside.held.items in
    let there : c.index_mut.result.now ≡ get_or held c.args.total.solver c.index_mut.result.now = search rules in
    (kept_there held c.args.total.solver c.index_mut.result.now c.self.invariant (omega (arith, c.len.ensures, c.if-number-len.false)) there).1

pub post-requires-clause-own : goal.post-requires-clause-own
post-requires-clause-own g c =
    let held = c.self.inside.held.items in
    let there : c.index_mut.result.now ≡ get_or held c.args.total.solver c.index_mut.result.now = search rules in
    sym (kept_there held c.args.total.solver c.index_mut.result.now c.self.invariant (omega (arith, c.len.ensures, c.if-number-len.false)) there).0

pub invariant_of-self : goal.invariant_of-self
invariant_of-self g c =
    let held = c.self.inside.held.items in
    let there : c.index_mut.result.now ≡ get_or held c.args.total.solver c.index_mut.result.now = search rules in
    let lt : c.args.total.solver < length held = omega (arith, c.len.ensures, c.if-number-len.false) in
    let old = kept_there held c.args.total.solver c.index_mut.result.now c.self.invariant lt there in
    changed_kept held c.self.invariant c.args.total.solver c.post.new.self lt (c.post.ensures.number ∙ old.0) c.post.ensures.kept

pub returns-clause-did : goal.returns-clause-did
returns-clause-did g c = λ s is.
    let held = c.self.inside.held.items in
    let all = is ∙ sym c.self.view_is in
    let there : c.index_mut.result.now ≡ get_or held c.args.total.solver c.index_mut.result.now = search rules in
    let lt : c.args.total.solver < length held = omega (arith, c.len.ensures, c.if-number-len.false) in
    let same : to_z w64 (of_z w64 c.args.weight) ≡ c.args.weight = search rules in
    let meant = subst (λ (z : ℤ). Makes (held_seen c.post.new.self) c.post.result (posted_one c.args.at c.args.total.solver (whole_of c.args.total) c.args.built z (held_seen c.index_mut.result.now))) same c.post.ensures.meant in
    rw (posts c.args.at c.args.built c.args.weight c.args.total.solver (whole_of c.args.total) s, found held c.args.total.solver c.index_mut.result.now s all lt there)
    (does_so Nothing c.args.total.solver s held c.post.new.self c.post.result _ all meant)

pub returns-clause-stop : goal.returns-clause-stop
returns-clause-stop g c = no_cycle_so (held_seen c.post.new.self) c.post.result _ (posted_none c.args.at c.args.total.solver (whole_of c.args.total) c.args.built (to_z w64 (of_z w64 c.args.weight)) (held_seen c.index_mut.result.now)) c.post.ensures.meant
