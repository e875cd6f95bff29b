-- The solver is there, and the change is its own; or it isn't there.
use Rattle.std.proofs.Common.{◌≡◌, ◌<◌, ℤ, length, get_or, sym, ◌∙◌, ap, subst, arith, rules, w64, to_z, of_z}
use Rattle.ls_solver.specs.Totals.{whole_of}
use Rattle.comet_meaning.specs.Parts.{solver_at}
use Rattle.comet_meaning.specs.Values.{Nothing}
use Rattle.posted_users.specs.KeptOf.{kept_of}
use Rattle.run_solvers.specs.Changing.{Made, changed, posted_user_one}
use Rattle.run_solvers.specs.Makes.{Makes}
use Rattle.run_solvers.specs.Views.{held_seen}
use Rattle.run_solvers.proofs.TotalActs.{posted_user_none, posted_user_nowhere, posts_user}
use Rattle.run_solvers.proofs.FoundSolvers.{changed_kept, does_so, found, kept_there, no_cycle_so, not_found}
use Rattle.run_solvers.proofs.solvers.Solvers.post_user_to.Goals as goal

pub returns-then-number-len-clause-did : goal.returns-then-number-len-clause-did
returns-then-number-len-clause-did g c = λ s is.
    let held = c.self.inside.held.items in
    let k = c.args.total.solver in
    let none = not_found held k s (is ∙ sym c.self.view_is) (omega (arith, c.len.ensures, c.if-number-len.true)) in
    posts_user c.args.at (kept_of (g.N.NodeRule.rule c.args.node)) c.args.places.items c.args.weight k (whole_of c.args.total) s
    ∙ ap (λ (made : Made). changed Nothing k made s) (posted_user_nowhere c.args.at k (whole_of c.args.total) (kept_of (g.N.NodeRule.rule c.args.node)) c.args.places.items c.args.weight (solver_at s k) none)

pub post_user-requires-clause-kept : goal.post_user-requires-clause-kept
post_user-requires-clause-kept g c =
    let held = c.self.inside.held.items in
    let there : c.index_mut.result.now ≡ get_or held c.args.total.solver c.index_mut.result.now = search rules in
    (kept_there held c.args.total.solver c.index_mut.result.now c.self.invariant (omega (arith, c.len.ensures, c.if-number-len.false)) there).1

pub post_user-requires-clause-own : goal.post_user-requires-clause-own
post_user-requires-clause-own g c =
    let held = c.self.inside.held.items in
    let there : c.index_mut.result.now ≡ get_or held c.args.total.solver c.index_mut.result.now = search rules in
    sym (kept_there held c.args.total.solver c.index_mut.result.now c.self.invariant (omega (arith, c.len.ensures, c.if-number-len.false)) there).0

pub invariant_of-self : goal.invariant_of-self
invariant_of-self g c =
    let held = c.self.inside.held.items in
    let there : c.index_mut.result.now ≡ get_or held c.args.total.solver c.index_mut.result.now = search rules in
    let lt : c.args.total.solver < length held = omega (arith, c.len.ensures, c.if-number-len.false) in
    let old = kept_there held c.args.total.solver c.index_mut.result.now c.self.invariant lt there in
    changed_kept held c.self.invariant c.args.total.solver c.post_user.new.self lt (c.post_user.ensures.number ∙ old.0) c.post_user.ensures.kept

pub returns-clause-did : goal.returns-clause-did
returns-clause-did g c = λ s is.
    let held = c.self.inside.held.items in
    let all = is ∙ sym c.self.view_is in
    let there : c.index_mut.result.now ≡ get_or held c.args.total.solver c.index_mut.result.now = search rules in
    let lt : c.args.total.solver < length held = omega (arith, c.len.ensures, c.if-number-len.false) in
    let same : to_z w64 (of_z w64 c.args.weight) ≡ c.args.weight = search rules in
    let meant = subst (λ (z : ℤ). Makes (held_seen c.post_user.new.self) c.post_user.result (posted_user_one c.args.at c.args.total.solver (whole_of c.args.total) (kept_of (g.N.NodeRule.rule c.args.node)) c.args.places.items z (held_seen c.index_mut.result.now))) same c.post_user.ensures.meant in
    rw (posts_user c.args.at (kept_of (g.N.NodeRule.rule c.args.node)) c.args.places.items c.args.weight c.args.total.solver (whole_of c.args.total) s, found held c.args.total.solver c.index_mut.result.now s all lt there)
    (does_so Nothing c.args.total.solver s held c.post_user.new.self c.post_user.result _ all meant)

pub returns-clause-stop : goal.returns-clause-stop
returns-clause-stop g c = no_cycle_so (held_seen c.post_user.new.self) c.post_user.result _ (posted_user_none c.args.at c.args.total.solver (whole_of c.args.total) (kept_of (g.N.NodeRule.rule c.args.node)) c.args.places.items (to_z w64 (of_z w64 c.args.weight)) (held_seen c.index_mut.result.now)) c.post_user.ensures.meant
