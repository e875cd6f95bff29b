-- The solver is there, or it isn't closed.
use Rattle.std.proofs.Common.{[], ◌∷◌, ◌≡◌, ◌<◌, length, get_or, sym, ◌∙◌, arith}
use Rattle.ls_solver.specs.Totals.{whole_of}
use Rattle.model_values.specs.declared.deltas.Move.TheVariants.{Swap}
use Rattle.run_solvers.proofs.TotalActs.{delta_asked, delta_nowhere}
use Rattle.run_solvers.proofs.FoundSolvers.{found, kept_there, not_found}
use Rattle.run_solvers.proofs.solvers.Solvers.total_swapped.Goals as goal

pub returns-then-number-len-clause-did : goal.returns-then-number-len-clause-did
returns-then-number-len-clause-did g c = λ s is.
    let none = not_found c.self.inside.held.items c.args.total.solver s (is ∙ sym c.self.view_is) (omega (arith, c.len.ensures, c.if-number-len.true)) in
    delta_nowhere c.args.at (c.args.x ∷ c.args.y ∷ []) (Swap c.args.x.index c.args.y.index) c.args.total.solver (whole_of c.args.total) s none

pub swap_delta-requires-clause-kept : goal.swap_delta-requires-clause-kept
swap_delta-requires-clause-kept g c =
    let held = c.self.inside.held.items in
    let there : c.index.result.now ≡ get_or held c.args.total.solver c.index.result.now = c.index.ensures in
    (kept_there held c.args.total.solver c.index.result.now c.self.invariant (omega (arith, c.len.ensures, c.if-number-len.false)) there).1

pub swap_delta-requires-clause-own : goal.swap_delta-requires-clause-own
swap_delta-requires-clause-own g c =
    let held = c.self.inside.held.items in
    let there : c.index.result.now ≡ get_or held c.args.total.solver c.index.result.now = c.index.ensures in
    sym (kept_there held c.args.total.solver c.index.result.now c.self.invariant (omega (arith, c.len.ensures, c.if-number-len.false)) there).0

pub returns-clause-did : goal.returns-clause-did
returns-clause-did g c = λ s is.
    let held = c.self.inside.held.items in
    let there : c.index.result.now ≡ get_or held c.args.total.solver c.index.result.now = c.index.ensures in
    let lt : c.args.total.solver < length c.self.inside.held.items = omega (arith, c.len.ensures, c.if-number-len.false) in
    rw (delta_asked c.args.at (c.args.x ∷ c.args.y ∷ []) (Swap c.args.x.index c.args.y.index) c.args.total.solver (whole_of c.args.total) s, found held c.args.total.solver c.index.result.now s (is ∙ sym c.self.view_is) lt there) (c.swap_delta.ensures.did s)
