-- The solver is there, or it isn't closed.
use Rattle.std.proofs.Common.{[], ◌∷◌, ◌≡◌, ◌<◌, ℤ, length, get_or, sym, ◌∙◌, subst, arith, w64, to_z, of_z, rules}
use Rattle.comet_meaning.specs.Systems.{asking, delta_answer}
use Rattle.run_values.specs.Did.{Did}
use Rattle.run_values.specs.Views.{value_seen}
use Rattle.run_solvers.specs.Views.{held_seen}
use Rattle.ls_solver.specs.Totals.{whole_of}
use Rattle.model_values.specs.declared.deltas.Move.TheVariants.{Assign}
use Rattle.run_solvers.proofs.TotalActs.{delta_asked, delta_nowhere}
use Rattle.run_solvers.proofs.FoundSolvers.{found, kept_there, not_found}
use Rattle.run_solvers.proofs.solvers.Solvers.total_assigned.Goals as goal

pub returns-then-number-len-clause-did : goal.returns-then-number-len-clause-did
returns-then-number-len-clause-did g c = λ s is.
    let none = not_found c.self.inside.held.items c.args.total.solver s (is ∙ sym c.self.view_is) (omega (arith, c.len.ensures, c.if-number-len.true)) in
    delta_nowhere c.args.at (c.args.x ∷ []) (Assign c.args.x.index c.args.v) c.args.total.solver (whole_of c.args.total) s none

pub assign_delta-requires-clause-kept : goal.assign_delta-requires-clause-kept
assign_delta-requires-clause-kept g c =
    let held = c.self.inside.held.items in
    let there : c.index.result.now ≡ get_or held c.args.total.solver c.index.result.now = c.index.ensures in
    (kept_there held c.args.total.solver c.index.result.now c.self.invariant (omega (arith, c.len.ensures, c.if-number-len.false)) there).1

pub assign_delta-requires-clause-own : goal.assign_delta-requires-clause-own
assign_delta-requires-clause-own g c =
    let held = c.self.inside.held.items in
    let there : c.index.result.now ≡ get_or held c.args.total.solver c.index.result.now = c.index.ensures in
    sym (kept_there held c.args.total.solver c.index.result.now c.self.invariant (omega (arith, c.len.ensures, c.if-number-len.false)) there).0

pub returns-clause-did : goal.returns-clause-did
returns-clause-did g c = λ s is.
    let held = c.self.inside.held.items in
    let there : c.index.result.now ≡ get_or held c.args.total.solver c.index.result.now = c.index.ensures in
    let lt : c.args.total.solver < length c.self.inside.held.items = omega (arith, c.len.ensures, c.if-number-len.false) in
    let same : to_z w64 (of_z w64 c.args.v) ≡ c.args.v = search rules in
    let m = held_seen c.index.result.now in
    rw (delta_asked c.args.at (c.args.x ∷ []) (Assign c.args.x.index c.args.v) c.args.total.solver (whole_of c.args.total) s, found held c.args.total.solver c.index.result.now s (is ∙ sym c.self.view_is) lt there)
    (subst (λ (z : ℤ). Did value_seen c.assign_delta.result s (asking c.args.at c.args.total.solver (whole_of c.args.total) (c.args.x ∷ []) (delta_answer m (whole_of c.args.total) (Assign c.args.x.index z)) m s)) same (c.assign_delta.ensures.did s))
